-- What comes of names, and what resolution tells.
use Rattle.std.proofs.Common.{◌≡◌, ◌∷◌, [], Option, None, Some, inl, refl}
use Rattle.std.specs.Prelude.{Result, Ok, Err}
use Rattle.name_scopes.specs.declared.error.ResolveError.{ResolveError}
use Rattle.name_scopes.specs.declared.error.ResolveError.TheVariants as errors
use Rattle.name_scopes.specs.Outcomes.{Outcome, Answers}
use Rattle.edit_rules.specs.First.{IsTested}
use Rattle.edit_rules.proofs.FirstLaws.{passes_one}
use Rattle.statement_steps.specs.Resolving.{by_names, unresolved_name}

-- what all names come to is told by what a function answers
pub names_tested : {A B : Type 0} (o : Outcome A) (answer : Result B ResolveError) (Resolves : Result B ResolveError → Type 0) (Named : Option B → Type 0)
    → ((e : ResolveError) → Resolves (Err e) → Answers o (Err e))
    → ((x : B) → Resolves (Ok x) → (y : A) × (o ≡ Ok y)) → ((x : B) → Resolves (Ok x) → Named (Some x)) → (o ≡ Err errors.TypeMismatch → Named None)
    → Resolves answer → IsTested (unresolved_name o ∷ []) Named (by_names answer)
names_tested o (Ok x) Resolves Named errs oks made none h =
    let y = oks x h in (passes_one (unresolved_name o) (λ refusal r. rw y.1 at r), made x h)
names_tested o (Err (errors.UnknownName path)) Resolves Named errs oks made none h = (inl (rw (errs (errors.UnknownName path) h) refl), tt)
names_tested o (Err (errors.Ambiguous name)) Resolves Named errs oks made none h = (inl (rw (errs (errors.Ambiguous name) h) refl), tt)
names_tested o (Err errors.TypeMismatch) Resolves Named errs oks made none h =
    let is = errs errors.TypeMismatch h in (passes_one (unresolved_name o) (λ refusal r. rw is at r), none is)
names_tested o (Err errors.Memory) Resolves Named errs oks made none h = tt
