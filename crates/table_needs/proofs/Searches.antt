-- Lists of which a member is so.
use Rattle.std.proofs.Common.{◌⊎◌, ◌↔◌, List, [], ◌∷◌, ◌++◌, sym, subst, inl, inr}
use Rattle.std.specs.List.{Any, Contains}
use Rattle.std.proofs.lemmas.List.Elements.{Contains-append_left, Contains-push, Contains-push_cases}

module _ {X : Type 0} (P : X → Type 0) where
  pub member_of : (xs : List X) → Any P xs → (x : X) × Contains xs x × P x
  member_of xs h = (h.1, (h.0, h.2, h.3), h.4)

  pub any_of : (xs : List X) (x : X) → Contains xs x → P x → Any P xs
  any_of xs x h so = (h.0, x, h.1, h.2, so)

  pub any_push : (xs : List X) (y : X) → Any P (xs ++ y ∷ []) ↔ (Any P xs ⊎ P y)
  any_push xs y = (
    λ h.
        let found = member_of (xs ++ y ∷ []) h in
        elim (Contains-push_cases xs y found.0 found.1) [
          | inl before ↦ inl (any_of xs found.0 before found.2)
          | inr same ↦ inr (subst P (sym same) found.2)
        ],
    λ h. elim h [
      | inl before ↦ let found = member_of xs before in any_of (xs ++ y ∷ []) found.0 (Contains-append_left xs (y ∷ []) found.0 found.1) found.2
      | inr so ↦ any_of (xs ++ y ∷ []) y (Contains-push xs y) so
    ],
  )
