-- Descriptors that are put in one after the other.
use Rattle.std.proofs.Common.{◌≡◌, ◌⊎◌, ◌↔◌, ℕ, ◌+◌, ◌<◌, ◌≤◌, List, [], ◌∷◌, ◌++◌, length, take, get_or, sym, subst, inl, inr, arith}
use Rattle.std.specs.List.{Contains}
use Rattle.std.specs.declared.cmp.Ordering.TheVariants.{Equal}
use Rattle.std.proofs.lemmas.List.Elements.{Contains-append_left, Contains-get_or, Contains-push, Contains-push_cases}
use Rattle.cat_items.specs.declared.item.Item.{Item}
use Rattle.cat_items.specs.Order.{item_cmp}
use Rattle.cat_items.proofs.Rising.{fact_from_take}
use Rattle.edit_rules.proofs.Lists.{take_next, take_whole}

within : (xs : List Item) (i : ℕ) → i ≤ length xs → (x : Item) → Contains (take i xs) x → Contains xs x
within xs i low = fact_from_take (Contains xs) xs i low (λ k d below. Contains-get_or xs k d (omega (arith, below, low)))

module _ (begin items shown : List Item) (i : ℕ) (same : shown ≡ items) where
  abbrev Members : List Item → ℕ → Type 0
  Members added n = (y : Item) → Contains added y ↔ (Contains begin y ⊎ Contains (take n items) y)

  -- what has the key of the next is the next
  pub next_is : (added : List Item) (x : Item) → i < length shown → x ≡ get_or shown i x → ((a b : Item) → Contains items a → Contains items b → item_cmp a b ≡ Equal → a ≡ b)
      → ((a b : Item) → Contains begin a → Contains items b → item_cmp a b ≡ Equal → a ≡ b) → Members added i → (y : Item) → Contains added y → item_cmp y x ≡ Equal → y ≡ x
  next_is added x low is one beside members y h e =
      let here : Contains items x = subst (λ l. Contains l x) same (i, low, sym is) in
      let size : i ≤ length items = subst (λ (l : List Item). i ≤ length l) same (omega (arith, low)) in
      elim ((members y).0 h) [
        | inl was ↦ beside y x was here e
        | inr before ↦ one y x (within items i size y before) here e
      ]

  -- one more
  pub put_more : (old new : List Item) (x : Item) → i < length shown → x ≡ get_or shown i x → Members old i → ((y : Item) → Contains new y ↔ (Contains old y ⊎ (y ≡ x))) → Members new (i + 1)
  put_more old new x low is members step y = subst (λ l. Contains new y ↔ (Contains begin y ⊎ Contains l y)) (sym (take_next items shown i same x low is)) (
    λ h. elim ((step y).0 h) [
      | inl was ↦ elim ((members y).0 was) [ inl first ↦ inl first | inr before ↦ inr (Contains-append_left (take i items) (x ∷ []) y before) ]
      | inr e ↦ inr (subst (λ z. Contains (take i items ++ x ∷ []) z) (sym e) (Contains-push (take i items) x))
    ],
    λ h. (step y).1 (elim h [
      | inl first ↦ inl ((members y).1 (inl first))
      | inr among ↦ elim (Contains-push_cases (take i items) x y among) [ inl before ↦ inl ((members y).1 (inr before)) | inr e ↦ inr (sym e) ]
    ]),
  )

  -- all
  pub put_whole : (added : List Item) → length shown ≤ i → Members added i → (y : Item) → Contains added y ↔ (Contains begin y ⊎ Contains items y)
  put_whole added done members y = subst (λ l. Contains added y ↔ (Contains begin y ⊎ Contains l y)) (take_whole items shown i same done) (members y)
