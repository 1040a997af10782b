use Rattle.std.proofs.Common.{◌≡◌, Option, Ok, Err, refl, sym, subst}
use Rattle.std.specs.Prelude.{Result}
use Rattle.std.specs.Result.{IsErrAnd}
use Rattle.sql_names.specs.declared.column.ObjectName.TheVariants.{Qualified}
use Rattle.sql_tree.specs.declared.body.Act.{Act}
use Rattle.sql_tree.specs.declared.body.Act.TheVariants as acts
use Rattle.sql_tree.specs.declared.expr.Expr.{Expr}
use Rattle.name_scopes.specs.declared.error.ResolveError.{ResolveError}
use Rattle.name_scopes.specs.declared.error.ResolveError.TheVariants.{UnknownName, Ambiguous, TypeMismatch, Memory}
use Rattle.name_scopes.specs.declared.scope.Scope.{Scope}
use Rattle.name_scopes.specs.Outcomes.{Outcome, ◌>>=◌, Answers}
use Rattle.routine_deps.specs.BodyNames as spec
use Rattle.routine_deps.proofs.body_names.resolve_deleted.Goals as goal

-- a refusal of the first step is one of both
both_refused : {A B : Type 0} (o : Outcome A) (f : A → Outcome B) (e : ResolveError) → Answers {A = A} o (Err e) → Answers {A = B} (o >>= f) (Err e)
both_refused (Ok x) f (UnknownName p) h = absurd (let odd : Ok x ≡ Err (UnknownName p) = h in cc)
both_refused (Ok x) f (Ambiguous n) h = absurd (let odd : Ok x ≡ Err (Ambiguous n) = h in cc)
both_refused (Ok x) f TypeMismatch h = absurd (let odd : Ok x ≡ Err TypeMismatch = h in cc)
both_refused (Err d) f (UnknownName p) h = let same : d ≡ UnknownName p = cc in rw same refl
both_refused (Err d) f (Ambiguous n) h = let same : d ≡ Ambiguous n = cc in rw same refl
both_refused (Err d) f TypeMismatch h = let same : d ≡ TypeMismatch = cc in rw same refl
both_refused o f Memory h = tt

exit_refused : {A B : Type 0} (o : Outcome A) (f : A → Outcome B) (e : ResolveError) (exit : Result B ResolveError) → IsErrAnd exit (λ error. error ≡ e) → Answers {A = A} o (Err e) → Answers (o >>= f) exit
exit_refused o f e (Ok value) is h = absurd is
exit_refused {B = B} o f e (Err error) is h = subst (λ x. Answers {A = B} (o >>= f) (Err x)) (sym is) (both_refused o f e h)

pub returns-in_err-filter : goal.returns-in_err-filter
returns-in_err-filter g c =
    let k = g.D.Dictionary.known c.args.dictionary.now in
    let refused = subst (λ (s : Scope). Answers {A = Option Expr} (spec.optional k s c.args.filter.now) (Err c.in_err-filter.field-0.0)) c.in_ok-inner.ensures c.in_err-filter.ensures in
    exit_refused (spec.optional k (spec.with_own k c.args.table c.args.scope.now) c.args.filter.now) (λ f. Ok (acts.Delete (Qualified c.args.table) f)) c.in_err-filter.field-0.0 c.from_residual-in_err-filter.result c.from_residual-in_err-filter.ensures.1 refused
