-- Marked numbers, once a constraint more has its name.
use Rattle.std.proofs.Common.{◌≡◌, ◌+◌, List, Bool, [], ◌∷◌, ◌++◌, length, length-append, inl, inr, ◌∙◌, arith}
use Rattle.std.specs.List.{Any}
use Rattle.std.proofs.lemmas.List.{get_or_append_left}
use Rattle.std.proofs.lemmas.List.Quantifiers.{Any-push}
use Rattle.sql_names.specs.NameBytes.{NameBytes}
use Rattle.table_names.specs.declared.named.NamedConstraint.{NamedConstraint}
use Rattle.table_names.specs.Named.{IsFreeBeside, IsNamed, system_name}
use Rattle.table_names.specs.Taken.{AreTaken, IsMarkedFor}

any_before : (name : NameBytes) (named : List NamedConstraint) (n : NamedConstraint) → Any (IsNamed name) named → Any (IsNamed name) (named ++ n ∷ [])
any_before name named n any =
    let longer : length (named ++ n ∷ []) ≡ length named + 1 = length-append named (n ∷ []) in
    (any.0, any.1, omega (arith, any.2, longer), get_or_append_left named (n ∷ []) any.1 any.0 any.2 ∙ any.3, any.4)

-- what was marked stays taken, and so is the number of the name that is given now
pub still_taken : (Free : NameBytes → Type 0) (named : List NamedConstraint) (n : NamedConstraint) (old new : List Bool)
    → AreTaken (IsFreeBeside Free named) old → IsMarkedFor (λ number. n.name ≡ system_name number) old new → AreTaken (IsFreeBeside Free (named ++ n ∷ [])) new
still_taken Free named n old new taken marked place on free = elim (marked place on) [
  | inl before ↦ taken place before (free.0, λ any. free.1 (any_before _ named n any))
  | inr is ↦ free.1 (Any-push _ named n is)
]
