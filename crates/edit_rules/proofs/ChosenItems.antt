-- Those items of a list in order that are so, one after the other.
use Rattle.std.proofs.Common.{◌≡◌, ◌⊎◌, ◌↔◌, ℕ, ◌+◌, ◌<◌, ◌≤◌, List, [], ◌∷◌, ◌++◌, length, take, drop, get_or, ap, sym, subst, refl, ◌∙◌, inl, inr, arith}
use Rattle.std.specs.List.{Contains}
use Rattle.std.specs.declared.cmp.Ordering.TheVariants.{Less}
use Rattle.std.proofs.lemmas.List.{take_all, take_more, take-append-drop}
use Rattle.std.proofs.lemmas.List.Elements.{Contains-append_left, Contains-append_right, Contains-push_cases}
use Rattle.finite_chains.specs.StrictOrder.{IsRising}
use Rattle.finite_chains.proofs.Members.{Contains-nil, Contains-head, Contains-cases}
use Rattle.cat_items.specs.declared.item.Item.{Item}
use Rattle.cat_items.specs.Catalogues.{IsInOrder}
use Rattle.cat_items.specs.Order.{item_cmp}
use Rattle.cat_items.proofs.CatalogueLemmas.{rising, in_order}
use Rattle.cat_items.proofs.Rising.{rising_append, rising_left, rising_across}
use Rattle.edit_rules.specs.Chosen.{AreChosen}

-- one item more at the end, which is so
with_last : (front part : List Item) (P : Item → Type 0) (x : Item) → IsInOrder (front ++ x ∷ []) → AreChosen front P part → P x → AreChosen (front ++ x ∷ []) P (part ++ x ∷ [])
with_last front part P x order old so = record {
  order = in_order (part ++ x ∷ []) (rising_append item_cmp part (x ∷ []) (rising part old.order) last before);
  members = λ y. (into y, out_of y);
}
  where
    last : IsRising item_cmp (x ∷ [])
    last = (λ y h. absurd (Contains-nil y h), tt)

    before : (a b : Item) → Contains part a → Contains (x ∷ []) b → item_cmp a b ≡ Less
    before a b p q = rising_across item_cmp front (x ∷ []) (rising (front ++ x ∷ []) order) a b ((old.members a).0 p).0 q

    into : (y : Item) → Contains (part ++ x ∷ []) y → Contains (front ++ x ∷ []) y × P y
    into y h =
        elim (Contains-push_cases part x y h) [
          | inl p ↦ let was = (old.members y).0 p in (Contains-append_left front (x ∷ []) y was.0, was.1)
          | inr e ↦ (subst (Contains (front ++ x ∷ [])) e (Contains-append_right front (x ∷ []) x (Contains-head x [])), subst P e so)
        ]

    out_of : (y : Item) → Contains (front ++ x ∷ []) y × P y → Contains (part ++ x ∷ []) y
    out_of y h =
        elim (Contains-push_cases front x y h.0) [
          | inl f ↦ Contains-append_left part (x ∷ []) y ((old.members y).1 (f, h.1))
          | inr e ↦ subst (Contains (part ++ x ∷ [])) e (Contains-append_right part (x ∷ []) x (Contains-head x []))
        ]

-- one that isn't so
without_last : (front part : List Item) (P : Item → Type 0) (x : Item) → AreChosen front P part → (P x → ⊥) → AreChosen (front ++ x ∷ []) P part
without_last front part P x old not_so = record { order = old.order; members = λ y. (into y, out_of y) }
  where
    into : (y : Item) → Contains part y → Contains (front ++ x ∷ []) y × P y
    into y h = let was = (old.members y).0 h in (Contains-append_left front (x ∷ []) y was.0, was.1)

    out_of : (y : Item) → Contains (front ++ x ∷ []) y × P y → Contains part y
    out_of y h =
        elim (Contains-push_cases front x y h.0) [
          | inl f ↦ (old.members y).1 (f, h.1)
          | inr e ↦ absurd (not_so (subst P (sym e) h.1))
        ]

no_items_in_order : IsInOrder []
no_items_in_order i j d low high = absurd (omega (arith, high))

pub none_chosen : (items : List Item) (P : Item → Type 0) → AreChosen (take 0 items) P []
none_chosen items P = record { order = no_items_in_order; members = λ y. (λ h. absurd (Contains-nil y h), λ h. absurd (Contains-nil y h.0)) }

grown : (items shown : List Item) (k : ℕ) (x : Item) → shown ≡ items → k < length shown → x ≡ get_or shown k x → take (k + 1) items ≡ take k items ++ x ∷ []
grown items shown k x same low is =
    let here : x ≡ get_or items k x = subst (λ l. x ≡ get_or l k x) same is in
    let within : k < length items = subst (λ l. k < length l) same low in
    take_more items k x within ∙ ap (λ y. take k items ++ y ∷ []) (sym here)

front_order : (items : List Item) (n : ℕ) → IsInOrder items → IsInOrder (take n items)
front_order items n order = in_order (take n items) (rising_left item_cmp (take n items) (drop n items) (subst (IsRising item_cmp) (sym (take-append-drop n items)) (rising items order)))

pub chosen_more : (items shown part : List Item) (P : Item → Type 0) (k : ℕ) (x : Item) → IsInOrder items → shown ≡ items → k < length shown → x ≡ get_or shown k x → AreChosen (take k items) P part → P x → AreChosen (take (k + 1) items) P (part ++ x ∷ [])
chosen_more items shown part P k x order same low is old so =
    let e = grown items shown k x same low is in
    subst (λ l. AreChosen l P (part ++ x ∷ [])) (sym e) (with_last (take k items) part P x (subst IsInOrder e (front_order items (k + 1) order)) old so)

pub chosen_less : (items shown part : List Item) (P : Item → Type 0) (k : ℕ) (x : Item) → shown ≡ items → k < length shown → x ≡ get_or shown k x → AreChosen (take k items) P part → (P x → ⊥) → AreChosen (take (k + 1) items) P part
chosen_less items shown part P k x same low is old not_so =
    subst (λ l. AreChosen l P part) (sym (grown items shown k x same low is)) (without_last (take k items) part P x old not_so)

pub chosen_all : (items shown part : List Item) (P : Item → Type 0) (k : ℕ) → shown ≡ items → length shown ≤ k → AreChosen (take k items) P part → AreChosen items P part
chosen_all items shown part P k same high old =
    let all : length items ≤ k = subst (λ l. length l ≤ k) same high in
    subst (λ l. AreChosen l P part) (take_all k items all) old
