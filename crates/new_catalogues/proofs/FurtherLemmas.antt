-- The first of some items of a list in order.
use Rattle.std.proofs.Common.{◌≡◌, ◌⊎◌, ℕ, ◌+◌, ◌<◌, ◌≤◌, List, length, get_or, sym, ◌∙◌, ap, subst, inl, inr, arith, below_more}
use Rattle.std.specs.List.{Contains}
use Rattle.std.specs.Ordering.{ordering_reverse}
use Rattle.std.specs.declared.cmp.Ordering.TheVariants.{Less, Equal, Greater}
use Rattle.std.proofs.lemmas.Bool.{cases_lt, cases_eq}
use Rattle.std.proofs.lemmas.List.{get_or_default}
use Rattle.cat_items.specs.declared.edit.Edit.{Edit}
use Rattle.cat_items.specs.declared.item.Item.{Item}
use Rattle.cat_items.specs.Catalogues.{IsInOrder, HasKeyAt}
use Rattle.cat_items.specs.Edits.{IsFurther}
use Rattle.cat_items.specs.Order.{item_cmp}
use Rattle.cat_items.proofs.CatalogueLemmas.{no_equal}
use Rattle.cat_items.proofs.KeyLemmas.{same_key}
use Rattle.cat_items.proofs.OrderLemmas.{item_cmp-total}
use Rattle.new_catalogues.specs.Further.{IsLeastFurther}
use Rattle.new_catalogues.proofs.Joins.{one_by_key}

-- none of the items before a place is so
abbrev pub NoneBefore : List Item → (Item → Type 0) → ℕ → Type 0
NoneBefore c P i = (k : ℕ) → k < i → (d : Item) → P (get_or c k d) → ⊥

pub none_yet : (c : List Item) (P : Item → Type 0) → NoneBefore c P 0
none_yet c P k below d h = absurd (omega (arith, below))

pub none_here : (c : List Item) (P : Item → Type 0) (i : ℕ) (x : Item) → i < length c → x ≡ get_or c i x → NoneBefore c P i → ¬ (P x) → NoneBefore c P (i + 1)
none_here c P i x within at none here = below_more _ _ none (λ d h. here (subst P (get_or_default c i d x within ∙ sym at) h))

-- where none is so before the end, none is
pub none_at_all : (c : List Item) (P : Item → Type 0) (i : ℕ) → length c ≤ i → NoneBefore c P i → (x : Item) → Contains c x → P x → ⊥
none_at_all c P i all none x here h = none here.0 (omega (arith, here.1, all)) x (subst P (sym here.2) h)

-- the first one in the list comes before each other
pub first_of_all : (c : List Item) (P : Item → Type 0) (i : ℕ) (x : Item) → IsInOrder c → i < length c → x ≡ get_or c i x → NoneBefore c P i → (other : Item) → Contains c other → P other → (other ≡ x) ⊎ (item_cmp x other ≡ Less)
first_of_all c P i x order within at none other here h =
    elim (cases_lt here.0 i) [
      | inl before ↦ absurd (none here.0 before other (subst P (sym here.2) h))
      | inr from ↦ elim (cases_eq here.0 i) [
        | inl same ↦ inl (sym here.2 ∙ get_or_default c here.0 other x here.1 ∙ ap (λ k. get_or c k x) same ∙ sym at)
        | inr apart ↦
            let later : item_cmp (get_or c i x) (get_or c here.0 x) ≡ Less = order i here.0 x (omega (arith, from, apart)) here.1 in
            inr (subst (λ z. item_cmp x z ≡ Less) (get_or_default c here.0 x other here.1 ∙ here.2) (subst (λ z. item_cmp z (get_or c here.0 x) ≡ Less) (sym at) later))
      ]
    ]

-- two that come before each other are one
pub one_first : (x y : Item) → (y ≡ x) ⊎ (item_cmp x y ≡ Less) → (x ≡ y) ⊎ (item_cmp y x ≡ Less) → x ≡ y
one_first x y (inl e) q = sym e
one_first x y (inr p) (inl e) = e
one_first x y (inr p) (inr q) = let back = item_cmp-total.antisymm x y in let turned = ap ordering_reverse q in absurd (let odd : Less ≡ Greater = sym p ∙ back ∙ turned in cc)

-- the least further item
pub least_further : (c : List Item) (edit : Edit) (new : List Item) (i : ℕ) (x : Item) → IsInOrder c → i < length c → x ≡ get_or c i x → NoneBefore c (IsFurther c edit new) i
    → ¬ (Contains edit.target x) → ¬ (Contains new x) → IsLeastFurther c edit new x
least_further c edit new i x order within at none target gone = record {
  is = ((i, within, sym at), target, gone);
  least = λ other h. first_of_all c (IsFurther c edit new) i x order within at none other h.0 h;
}

-- the item at a place with the key of one in the list is that one
pub has_key : (items : List Item) (at : ℕ) (x : Item) → IsInOrder items → at < length items → item_cmp (get_or items at x) x ≡ Equal → Contains items x → get_or items at x ≡ x
has_key items at x order within same h =
    let y : Item = get_or items at x in
    one_by_key items order y x (at, within, get_or_default items at y x within) h same

pub no_such : (items : List Item) (x : Item) → ((k : ℕ) → HasKeyAt items k x → ⊥) → ¬ (Contains items x)
no_such items x none h = no_equal items x none x h (same_key x)

-- an edit has one least further item
pub one_further : (c : List Item) (edit : Edit) (new : List Item) (x y : Item) → IsLeastFurther c edit new x → IsLeastFurther c edit new y → x ≡ y
one_further c edit new x y p q = one_first x y (p.least y q.is) (q.least x p.is)
