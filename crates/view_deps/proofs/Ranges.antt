-- What is made of the items of a range, and of all items.
use Rattle.std.proofs.Common.{◌≡◌, ◌⊎◌, ℕ, zero, suc, ◌+◌, ◌-◌, ◌<◌, ◌≤◌, Bool, true, false, List, [], ◌∷◌, ◌++◌, length, take, drop, get_or, inl, inr, ap, sym, ◌∙◌, refl, arith}
use Rattle.std.specs.Prelude.{flat_map, nat_lt}
use Rattle.std.specs.List.{list_any}
use Rattle.std.proofs.lemmas.List.{get_or-drop, length-drop}
use Rattle.std.proofs.lemmas.List.Folds.{list_any_none, list_any_at}
use Rattle.std.proofs.lemmas.Bool.{cases_lt}
use Rattle.cat_items.specs.declared.item.Item.{Item}
use Rattle.cat_items.specs.Ranges.{IsRange}

module _ {X Y : Type 0} (f : X → List Y) where
  none_before : (xs : List X) (n : ℕ) → ((k : ℕ) (d : X) → k < n → k < length xs → f (get_or xs k d) ≡ []) → flat_map f xs ≡ flat_map f (drop n xs)
  none_before xs zero none = refl
  none_before [] (suc n) none = refl
  none_before (x ∷ xs) (suc n) none = ap (λ l. l ++ flat_map f xs) (none 0 x (omega arith) (omega arith)) ∙ none_before xs n (λ k d low within. none (suc k) d (omega (arith, low)) (omega (arith, within)))

  none_behind : (xs : List X) (n : ℕ) → ((k : ℕ) (d : X) → n ≤ k → k < length xs → f (get_or xs k d) ≡ []) → flat_map f xs ≡ flat_map f (take n xs)
  none_behind [] zero none = refl
  none_behind [] (suc n) none = refl
  none_behind (x ∷ xs) zero none = ap (λ l. l ++ flat_map f xs) (none 0 x (omega arith) (omega arith)) ∙ none_behind xs zero (λ k d low within. none (suc k) d (omega arith) (omega (arith, within)))
  none_behind (x ∷ xs) (suc n) none = ap (λ l. f x ++ l) (none_behind xs n (λ k d low within. none (suc k) d (omega (arith, low)) (omega (arith, within))))

-- all that is made of the items is made of those of a range, where others make nothing
pub made_of_range : {Y : Type 0} (f : Item → List Y) (P : Item → Type 0) (items : List Item) (from to : ℕ) → IsRange items from to P → ((x : Item) → (f x ≡ []) ⊎ P x) → flat_map f items ≡ flat_map f (take (to - from) (drop from items))
made_of_range f P items from to range makes = none_before f items from before ∙ none_behind f (drop from items) (to - from) behind
  where
    before : (k : ℕ) (d : Item) → k < from → k < length items → f (get_or items k d) ≡ []
    before k d low within = elim (makes (get_or items k d)) [ inl none ↦ none | inr is ↦ absurd (let there = range.outside k d within is in omega (arith, low, there.0)) ]

    behind : (k : ℕ) (d : Item) → to - from ≤ k → k < length (drop from items) → f (get_or (drop from items) k d) ≡ []
    behind k d low within =
        let size = length-drop from items in
        let same : get_or (drop from items) k d ≡ get_or items (from + k) d = get_or-drop from items k d in
        elim (makes (get_or items (from + k) d)) [
          | inl none ↦ ap f same ∙ none
          | inr is ↦ absurd (let there = range.outside (from + k) d (omega (arith, within, size)) is in omega (arith, low, there.1))
        ]

-- a range has an item where any item is so
pub any_of_range : (test : Item → Bool) (P : Item → Type 0) (items : List Item) (from to : ℕ) → IsRange items from to P → ((x : Item) → P x → test x ≡ true) → ((x : Item) → (test x ≡ false) ⊎ P x) → (from < to → list_any test items ≡ true) × (to ≤ from → list_any test items ≡ false)
any_of_range test P items from to range passes fails = (some items range, none)
  where
    some : (items : List Item) → IsRange items from to P → from < to → list_any test items ≡ true
    some [] range low = absurd (let end = range.within in omega (arith, low, end))
    some (x ∷ xs) range low = list_any_at test (x ∷ xs) from x (let end = range.within in omega (arith, low, end)) (passes (get_or (x ∷ xs) from x) (range.inside from x (omega arith) low))

    none : to ≤ from → list_any test items ≡ false
    none empty = list_any_none test items (λ k d within. elim (fails (get_or items k d)) [ inl fails ↦ fails | inr is ↦ absurd (let there = range.outside k d within is in omega (arith, empty, there.0, there.1)) ])

-- the test of a range is that of all items
pub told : (from to : ℕ) (r : Bool) → (from < to → r ≡ true) × (to ≤ from → r ≡ false) → nat_lt from to ≡ r
told from to r is = elim (cases_lt from to) [ inl low ↦ grind (arith, low) ∙ sym (is.0 low) | inr high ↦ grind (arith, high) ∙ sym (is.1 high) ]
