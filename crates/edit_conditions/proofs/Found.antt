-- What a condition comes to, by names and then by types.
use Rattle.std.proofs.Common.{◌≡◌, Bool, true, false, List, [], ◌∷◌, Ok, Err, refl, sym, subst, inl}
use Rattle.std.specs.Prelude.{if◌then◌else◌}
use Rattle.std.specs.declared.result.Result.{Result}
use Rattle.sql_tree.specs.declared.expr.Expr.{Expr}
use Rattle.sql_tree.specs.declared.rights.Action.TheVariants.{References}
use Rattle.cat_items.specs.declared.edit.Refusal.TheVariants as refusals
use Rattle.cat_items.specs.declared.item.Item.{Item}
use Rattle.cat_items.specs.Good.{IsGood}
use Rattle.cat_items.specs.Pieces.{AreFormed, AreResolved, expr_pieces}
use Rattle.name_scopes.specs.declared.error.ResolveError.{ResolveError}
use Rattle.name_scopes.specs.declared.error.ResolveError.TheVariants as errors
use Rattle.name_scopes.specs.declared.scope.Scope.{Scope}
use Rattle.name_scopes.specs.Outcomes.{Outcome}
use Rattle.query_types.specs.declared.whole.TypedExpr.{TypedExpr}
use Rattle.query_types.specs.Whole.{resolved_expr}
use Rattle.type_rules.specs.Rules.{is_boolean}
use Rattle.view_deps.specs.declared.resolve.ResolvedExpr.{ResolvedExpr}
use Rattle.view_deps.specs.Described.{known_of}
use Rattle.view_deps.specs.Views.{IsResolvedExpr}
use Rattle.constraint_deps.specs.Conditions.{condition}
use Rattle.edit_rules.specs.First.{First, IsTested, Passes}
use Rattle.edit_rules.proofs.FirstLaws.{passes_one}
use Rattle.resolved_trees.proofs.Columns.{good_has_columns}
use Rattle.resolved_trees.proofs.Resolved.{expr_resolved}
use Rattle.statement_steps.specs.Resolving.{by_names, unresolved_name}
use Rattle.edit_conditions.specs.Conditions.{IsFound, outcome_in}

-- where the outcome is no refusal by names, the test passes
passes_ok : (o : Outcome TypedExpr) (t : TypedExpr) → o ≡ Ok t → Passes (First (unresolved_name o ∷ []))
passes_ok o t e = passes_one (unresolved_name o) (λ r h. subst (λ z. unresolved_name z r) e h)

passes_type : (o : Outcome TypedExpr) → o ≡ Err errors.TypeMismatch → Passes (First (unresolved_name o ∷ []))
passes_type o e = passes_one (unresolved_name o) (λ r h. subst (λ z. unresolved_name z r) e h)

pub found : (o : Outcome TypedExpr) (r : Result ResolvedExpr ResolveError) → IsResolvedExpr References o r → IsTested (unresolved_name o ∷ []) (IsFound o) (by_names r)
found o (Ok r) h = (passes_ok o (record { expr = r.expr; sort = r.sort }) h.0, h)
found o (Err (errors.UnknownName path)) h = (inl (subst (λ z. unresolved_name z (refusals.UnknownName path)) (sym h) refl), tt)
found o (Err (errors.Ambiguous name)) h = (inl (subst (λ z. unresolved_name z (refusals.Ambiguous name)) (sym h) refl), tt)
found o (Err errors.TypeMismatch) h = (passes_type o h, h)
found o (Err errors.Memory) h = tt

-- a condition is what its expression comes to
chosen : (b : Bool) (x t : TypedExpr) → ◌≡◌ {A = Outcome TypedExpr} (if b then Ok x else Err errors.TypeMismatch) (Ok t) → ◌≡◌ {A = Outcome TypedExpr} (Ok x) (Ok t)
chosen true x t h = h
chosen false x t h = absurd (let odd : ◌≡◌ {A = Outcome TypedExpr} (Err errors.TypeMismatch) (Ok t) = h in cc)

condition_is : (o : Outcome TypedExpr) (t : TypedExpr) → condition o ≡ Ok t → o ≡ Ok t
condition_is (Err e) t is = absurd (let odd : ◌≡◌ {A = Outcome TypedExpr} (Err e) (Ok t) = is in cc)
condition_is (Ok x) t is = chosen (is_boolean x.sort) x t is

pub condition_resolved : (c : List Item) (scope : Scope) (e : Expr) (typed : TypedExpr) → IsGood c → AreFormed (expr_pieces e) → outcome_in c scope e ≡ Ok typed → AreResolved (expr_pieces typed.expr)
condition_resolved c scope e typed good formed is = expr_resolved (known_of c) scope (good_has_columns c good) e typed formed (condition_is (resolved_expr (known_of c) scope e) typed is)
