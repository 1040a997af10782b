-- What a binary search finds in a catalogue, and what an insert at its place gives.
use Rattle.std.proofs.Common.{◌≡◌, ◌≢◌, ◌↔◌, ◌⊎◌, ◌+◌, ◌<◌, ◌≤◌, ℕ, List, ◌++◌, length, take, drop, get_or, Err, ◌∙◌, ap, sym, subst, inl, inr, arith}
use Rattle.std.specs.List.{Contains, insert}
use Rattle.std.specs.List.Sorted.{IsBinarySearchResult, IsNonDecreasingBy, IsSortedBy}
use Rattle.std.specs.Ordering.{ordering_index, ordering_reverse, is_lt}
use Rattle.std.specs.declared.cmp.Ordering.TheVariants.{Less, Equal}
use Rattle.std.proofs.lemmas.List.{take-append-drop, get_or_default}
use Rattle.std.proofs.lemmas.List.Sorted.{searchable_from_sorted}
use Rattle.std.proofs.lemmas.Bool.{cases_lt}
use Rattle.finite_chains.specs.StrictOrder.{IsRising}
use Rattle.finite_chains.proofs.StrictOrders.{IsRising-from_pairs, rising_same}
use Rattle.cat_items.specs.declared.item.Item.{Item}
use Rattle.cat_items.specs.Order.{item_cmp}
use Rattle.cat_items.specs.Catalogues.{IsInOrder, HasKeyAt, IsCut}
use Rattle.cat_items.proofs.OrderLemmas.{item_cmp-total}
use Rattle.cat_items.proofs.Rising.{pairs_from_rising, fact_from_take, fact_from_drop, rising_insert, Contains-insert}

-- a list in order is sorted
pub IsSortedBy-from_order : (items : List Item) → IsInOrder items → IsSortedBy (λ a b. is_lt (item_cmp a b)) items
IsSortedBy-from_order items order k d low high =
    ap is_lt (item_cmp-total.antisymm (get_or items (k + 1) d) (get_or items k d) ∙ ap ordering_reverse (order k (k + 1) d (omega arith) high))

-- the comparisons with x rise along the list
pub comparisons_rise : (items : List Item) → IsInOrder items → (x : Item) → IsNonDecreasingBy (λ y. ordering_index (item_cmp y x)) items
comparisons_rise items order x = searchable_from_sorted item_cmp-total (λ y. y) items x (IsSortedBy-from_order items order)

-- a search that found a gap found no key
pub none_at : (items : List Item) (x : Item) (gap : ℕ) → IsInOrder items → IsBinarySearchResult (λ y. item_cmp y x) items (Err gap) → (k : ℕ) → HasKeyAt items k x → ⊥
none_at items x gap order parted k has =
    let part = parted (comparisons_rise items order x) in
    elim (cases_lt k gap) [
      | inl below ↦ let less = part.0 k x (omega arith) below in let same = has.1 x in cc
      | inr above ↦ let more = part.1 k x above has.0 in let same = has.1 x in cc
    ]

-- the gap that a search found is the cut
pub cut_at_gap : (items : List Item) (x : Item) (gap : ℕ) → IsInOrder items → gap ≤ length items → IsBinarySearchResult (λ y. item_cmp y x) items (Err gap) → IsCut items gap x
cut_at_gap items x gap order within parted =
    let part = parted (comparisons_rise items order x) in
    record {
      within = within;
      before = λ k d below. part.0 k d (omega arith) below;
      after = λ k d above high less. let more = part.1 k d above high in cc;
    }

-- so is the place of the key
pub cut_at_key : (items : List Item) (x : Item) (at : ℕ) → IsInOrder items → at < length items → ((d : Item) → item_cmp (get_or items at d) x ≡ Equal) → IsCut items at x
cut_at_key items x at order within same = record {
  within = omega arith;
  before = λ k d below. let less = order k at d below within in before_equal (get_or items k d) (get_or items at d) less (same d);
  after = λ k d above high less. elim (cases_lt at k) [
    | inl later ↦ not_less (get_or items at d) (get_or items k d) (order at k d later high) (same d) less
    | inr here ↦ let e : k ≡ at = omega arith in let l : item_cmp (get_or items at d) x ≡ Less = subst (λ n. item_cmp (get_or items n d) x ≡ Less) e less in let s = same d in cc
  ];
}
  where
    before_equal : (y z : Item) → item_cmp y z ≡ Less → item_cmp z x ≡ Equal → item_cmp y x ≡ Less
    before_equal y z less equal =
        let turned : item_cmp z y ≡ item_cmp x y = item_cmp-total.congr z x y equal in
        item_cmp-total.antisymm y x ∙ ap ordering_reverse (sym turned) ∙ sym (item_cmp-total.antisymm y z) ∙ less

    not_less : (y z : Item) → item_cmp y z ≡ Less → item_cmp y x ≡ Equal → item_cmp z x ≡ Less → ⊥
    not_less y z less equal before =
        let again : item_cmp y x ≡ Less = item_cmp-total.trans y z x less before in cc

-- where each item comes before x, none has its key
pub none_behind : (items : List Item) (x : Item) → IsCut items (length items) x → (k : ℕ) → HasKeyAt items k x → ⊥
none_behind items x cut k has = let less = cut.before k x has.0 in let same = has.1 x in cc

-- what comes before the cut, and what doesn't
pub before_cut : (items : List Item) (at : ℕ) (x : Item) → IsCut items at x → (y : Item) → Contains (take at items) y → item_cmp y x ≡ Less
before_cut items at x cut = fact_from_take (λ y. item_cmp y x ≡ Less) items at cut.within cut.before

pub after_cut : (items : List Item) (at : ℕ) (x : Item) → IsCut items at x → (y : Item) → Contains (drop at items) y → item_cmp y x ≢ Less
after_cut items at x cut = fact_from_drop (λ y. item_cmp y x ≢ Less) items at cut.after

-- no item of the list has the key
pub no_equal : (items : List Item) (x : Item) → ((k : ℕ) → HasKeyAt items k x → ⊥) → (y : Item) → Contains items y → item_cmp y x ≢ Equal
no_equal items x none y c same =
    none c.0 (c.1, λ d. subst (λ z. item_cmp z x ≡ Equal) (sym c.2 ∙ get_or_default items c.0 y d c.1) same)

pub rising : (items : List Item) → IsInOrder items → IsRising item_cmp items
rising items order = IsRising-from_pairs item_cmp items order

pub in_order : (items : List Item) → IsRising item_cmp items → IsInOrder items
in_order items h = pairs_from_rising item_cmp items h

-- an item that has a new key, put at its cut
pub IsInOrder-insert : (items : List Item) (at : ℕ) (x : Item) → IsInOrder items → IsCut items at x → ((k : ℕ) → HasKeyAt items k x → ⊥) → IsInOrder (insert items at x)
IsInOrder-insert items at x order cut none =
    let whole : IsRising item_cmp (take at items ++ drop at items) = rw take-append-drop (rising items order) in
    in_order (insert items at x) (rising_insert item_cmp item_cmp-total (take at items) (drop at items) x whole (before_cut items at x cut) (after_cut items at x cut)
    (λ b c. no_equal items x none b (subst (λ l. Contains l b) (take-append-drop at items) (Rattle.std.proofs.lemmas.List.Elements.Contains-append_right (take at items) (drop at items) b c))))

pub members-insert : (items : List Item) (at : ℕ) (x : Item) → (z : Item) → Contains (insert items at x) z ↔ (Contains items z ⊎ (z ≡ x))
members-insert items at x z = subst (λ l. Contains (insert items at x) z ↔ (Contains l z ⊎ (z ≡ x))) (take-append-drop at items) (Contains-insert (take at items) (drop at items) x z)

-- two lists in order that have the same items are one list
pub same_in_order : (a b : List Item) → IsInOrder a → IsInOrder b → ((x : Item) → Contains a x ↔ Contains b x) → a ≡ b
same_in_order a b p q same = rising_same item_cmp item_cmp-total a b (rising a p) (rising b q) same
