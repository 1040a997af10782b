-- The least need that isn't met for the owner of a schema.
use Rattle.std.proofs.Common.{◌≡◌, ◌↔◌, ℕ, false, List, [], ◌∷◌, refl, sym, subst, inl, inr}
use Rattle.std.specs.List.{Contains}
use Rattle.std.specs.declared.result.Result.{Result}
use Rattle.std.specs.declared.result.Result.TheVariants.{Ok, Err}
use Rattle.std.proofs.lemmas.List.Elements.{All-nil, All-cons, All-head}
use Rattle.cat_items.specs.declared.edit.EditError.{EditError}
use Rattle.cat_items.specs.declared.edit.EditError.TheVariants.{Refused, Memory}
use Rattle.cat_items.specs.declared.edit.Refusal.{Refusal}
use Rattle.cat_items.specs.declared.edit.Refusal.TheVariants.{NoPrivilege, NotOwner}
use Rattle.cat_items.specs.declared.edit.Who.{Who}
use Rattle.cat_items.specs.declared.item.Item.{Item}
use Rattle.cat_items.specs.declared.item.Item.TheVariants as item
use Rattle.cat_items.specs.declared.need.Auth.TheVariants.{Named}
use Rattle.cat_items.specs.declared.need.Need.{Need}
use Rattle.cat_items.specs.Catalogues.{IsInOrder, OwnsSchema}
use Rattle.cat_items.specs.Rights.{Met, MeetsAll}
use Rattle.edit_rules.specs.First.{First, HasPassed, Passes}
use Rattle.edit_rules.specs.Owners.{not_owner}
use Rattle.edit_rules.specs.Privileges.{IsLeastNeed, IsUnmet, no_privilege}
use Rattle.edit_rules.proofs.OwnerLemmas.{one_owner, unowned}
use Rattle.statement_steps.specs.Steps.{IsUnmetIn, no_least_privilege}

-- the refusal of the least need that is so
abbrev pub tells_least : (Need → Type 0) → Refusal → Type 0
tells_least P refusal = (need : Need) × IsLeastNeed P need × (refusal ≡ NoPrivilege need)

module _ (P Q : Need → Type 0) (same : (n : Need) → P n ↔ Q n) where
  least_as : (need : Need) → IsLeastNeed P need → IsLeastNeed Q need
  least_as need h = record { is = (same need).0 h.is; least = λ other q. h.least other ((same other).1 q) }

  first_as : (refusal : Refusal) → First (tells_least P ∷ []) refusal → First (tells_least Q ∷ []) refusal
  first_as refusal f = elim f [ inl r ↦ inl (r.0, least_as r.0 r.1, r.2) | inr none ↦ absurd none.1 ]

-- needs that are so in two ways
pub least_told_as : {T : Type 0} (P Q : Need → Type 0) (result : Result T EditError) → ((n : Need) → P n ↔ Q n) → HasPassed (tells_least P ∷ []) result → HasPassed (tells_least Q ∷ []) result
least_told_as P Q (Ok value) same h = (λ refusal f. h.0 refusal (first_as Q P (λ n. ((same n).1, (same n).0)) refusal f), h.1)
least_told_as P Q (Err (Refused refusal)) same h = (first_as P Q same refusal h.0, h.1)
least_told_as P Q (Err Memory) same h = h

module _ (c : List Item) (order : IsInOrder c) (schema owner : List ℕ) (owns : OwnsSchema c schema owner) where
  -- a schema of this name whose owner meets a need is that of its owner
  meets_by : (need : Need) (y : Item) → Contains c y → MeetsAll false c schema (need ∷ []) y → Met false c (Named owner) need
  meets_by need (item.Schema x) m is =
      let same : x.owner ≡ owner = one_owner c order x owner m (subst (λ n. OwnsSchema c n owner) (sym is.0) owns) in
      subst (λ n. Met false c (Named n) need) same (All-head (Met false c (Named x.owner)) need [] is.1)
  meets_by need y m is = absurd is

  -- a need is met for the owner of the schema, or it isn't
  pub unmet_in : (need : Need) → (¬ (Met false c (Named owner) need)) ↔ IsUnmetIn c schema need
  unmet_in need = (
    λ not h. not (meets_by need h.0 h.1 h.2),
    λ not met. not (item.Schema (record { name = schema; owner = owner }), owns, (refl, All-cons (Met false c (Named owner)) need [] met (All-nil (Met false c (Named owner))))),
  )

  pub lacks_in : {T : Type 0} (needs : List Need) (result : Result T EditError) → HasPassed (no_privilege c owner needs ∷ []) result → HasPassed (no_least_privilege c schema (Contains needs) ∷ []) result
  lacks_in needs result h =
      least_told_as (IsUnmet c owner needs) (λ n. Contains needs n × IsUnmetIn c schema n) result (λ n. (λ h. (h.0, (unmet_in n).0 h.1), λ h. (h.0, (unmet_in n).1 h.1))) h

-- where the session acts for the owner of a schema it has one
pub is_owned : (c : List Item) (who : Who) (schema : List ℕ) → Passes (not_owner c who schema) → ((owner : List ℕ) → OwnsSchema c schema owner → ⊥) → ⊥
is_owned c who schema passed none = passed (NotOwner schema) (unowned c who schema none, refl)

-- needs of a statement
pub lacks_as : {T : Type 0} (c : List Item) (schema named : List ℕ) (needs : List Need) (P : Need → Type 0) (result : Result T EditError) → schema ≡ named → ((n : Need) → Contains needs n ↔ P n)
    → HasPassed (no_least_privilege c schema (Contains needs) ∷ []) result → HasPassed (no_least_privilege c named P ∷ []) result
lacks_as c schema named needs P result is same h =
    subst (λ n. HasPassed (no_least_privilege c n P ∷ []) result) is
    (least_told_as (λ n. Contains needs n × IsUnmetIn c schema n) (λ n. P n × IsUnmetIn c schema n) result (λ n. (λ h. ((same n).0 h.0, h.1), λ h. ((same n).1 h.0, h.1))) h)
