-- Lists that get what is so, element by element.
use Rattle.std.proofs.Common.{◌≡◌, ◌↔◌, ◌⊎◌, inl, inr, ℕ, ◌<◌, ◌≤◌, ◌+◌, true, false, List, [], ◌∷◌, ◌++◌, length, get_or, refl, sym, subst, ◌∙◌, arith}
use Rattle.std.specs.Bool.{◌==◌}
use Rattle.std.specs.List.{Contains}
use Rattle.std.proofs.lemmas.List.{get_or_default}
use Rattle.std.proofs.lemmas.Bool.{cases_lt}
use Rattle.finite_chains.proofs.Members.{Contains-nil, Contains-head}
use Rattle.cat_items.specs.declared.item.Item.{Item}
use Rattle.cat_items.specs.Ranges.{IsRange}
use Rattle.cat_items.specs.Reach.{Has}
use Rattle.cascade_laws.specs.Topics.{Topic}
use Rattle.topic_keys.specs.Lists.{Adds, Gets, IsKeyWhere}
use Rattle.topic_keys.proofs.Adding.{IsOfSome, gets_alike, gets_both, gets_none, gets_one}
use Rattle.topic_lists.specs.Sought.{IsOfAny}

-- the keys of the topics of each member
pub adds_of_any : {A : Type 0} (R : A → Topic → Type 0) (members : List A) (old new : List Item) → Gets (IsOfSome (λ a. IsKeyWhere (R a)) members) old new → Adds (IsOfAny R members) old new
adds_of_any R members old new gets =
    gets_alike (IsOfSome (λ a. IsKeyWhere (R a)) members) (IsKeyWhere (IsOfAny R members)) old new
    (λ k. ((λ h. (h.2.0, (h.0, h.1, h.2.1), h.2.2)), (λ h. (h.1.0, h.1.1, (h.0, h.1.2, h.2))))) gets

-- a list that isn't empty
pub some_member : {A : Type 0} (members : List A) → (length members == 0) ≡ false → (a : A) × Contains members a
some_member [] e = absurd (let odd : true ≡ false = e in cc)
some_member (a ∷ members) e = (a, Contains-head a members)

module _ {X : Type 0} where
  -- one is put behind, which is known by another name
  pub gets_pushed : (x y : X) (old new : List X) → y ≡ x → new ≡ old ++ y ∷ [] → Gets (λ z. z ≡ x) old new
  gets_pushed x y old new e put z = subst (λ (l : List X). Contains l z ↔ (Contains old z ⊎ (z ≡ x))) (sym put) (subst (λ w. Contains (old ++ y ∷ []) z ↔ (Contains old z ⊎ (z ≡ w))) e (gets_one y old z))

  -- a list that was empty has exactly what it got
  pub gets_from_none : (P Q : X → Type 0) (old new : List X) → old ≡ [] → ((x : X) → P x ↔ Q x) → Gets P old new → (x : X) → Contains new x ↔ Q x
  gets_from_none P Q old new empty same gets x = (
    λ h. elim ((gets_alike P Q old new same gets x).0 h) [ inl before ↦ absurd (Contains-nil x (subst (λ l. Contains l x) empty before)) | inr q ↦ q ],
    λ q. (gets_alike P Q old new same gets x).1 (inr q),
  )

  -- each member itself
  pub gets_listed : (members old new : List X) → Gets (IsOfSome (λ a x. x ≡ a) members) old new → Gets (Contains members) old new
  gets_listed members old new gets =
      gets_alike (IsOfSome (λ a x. x ≡ a) members) (Contains members) old new (λ x. (λ h. subst (Contains members) (sym h.2) h.1, λ h. (x, h, refl))) gets

  -- ---- by way of the items at the places of a part

  module _ (items : List Item) (R : Item → X → Type 0) where
    -- of an item at a place from the first to before the second
    abbrev pub IsOfPlaces : ℕ → ℕ → X → Type 0
    IsOfPlaces from at x = (y : Item) × (k : ℕ) × (from ≤ k) × (k < at) × (k < length items) × (get_or items k y ≡ y) × R y x

    pub places_begin : (from : ℕ) (old : List X) → Gets (IsOfPlaces from from) old old
    places_begin from old = gets_none (IsOfPlaces from from) old old refl (λ x h. omega (arith, h.2, h.3))

    pub places_more : (old mid new : List X) (from at : ℕ) (y : Item) → from ≤ at → at < length items → y ≡ get_or items at y → Gets (IsOfPlaces from at) old mid → Gets (R y) mid new → Gets (IsOfPlaces from (at + 1)) old new
    places_more old mid new from at y low within is first second =
        gets_alike (λ x. IsOfPlaces from at x ⊎ R y x) (IsOfPlaces from (at + 1)) old new same (gets_both (IsOfPlaces from at) (R y) old mid new first second)
      where
        same : (x : X) → (IsOfPlaces from at x ⊎ R y x) ↔ IsOfPlaces from (at + 1) x
        same x = (
          λ h. elim h [
            | inl earlier ↦ (earlier.0, earlier.1, earlier.2, omega (arith, earlier.3), earlier.4, earlier.5, earlier.6)
            | inr now ↦ (y, at, low, omega arith, within, sym is, now)
          ],
          λ h. elim (cases_lt h.1 at) [
            | inl earlier ↦ inl (h.0, h.1, h.2, earlier, h.4, h.5, h.6)
            | inr now ↦
                let here : h.1 ≡ at = omega (arith, now, h.3) in
                let mine : get_or items at h.0 ≡ h.0 = subst (λ k. get_or items k h.0 ≡ h.0) here h.5 in
                inr (subst (λ z. R z x) (sym mine ∙ get_or_default items at h.0 y within ∙ sym is) h.6)
          ],
        )

    pub places_end : (old new : List X) (P : Item → Type 0) (from to at : ℕ) → IsRange items from to P → at ≡ to → Gets (IsOfPlaces from at) old new → Gets (λ x. Has items (λ y. P y × R y x)) old new
    places_end old new P from to at range all =
        gets_alike (IsOfPlaces from at) (λ x. Has items (λ y. P y × R y x)) old new (λ x. (
          λ h. (h.0, (h.1, h.4, h.5), (subst P h.5 (range.inside h.1 h.0 h.2 (omega (arith, h.3, all))), h.6)),
          λ h.
              let k : ℕ = h.1.0 in
              let between = range.outside k h.0 h.1.1 (subst P (sym h.1.2) h.2.0) in
              (h.0, k, between.0, omega (arith, between.1, all), h.1.1, h.1.2, h.2.1),
        ))
