-- A need that is put in at its place.
use Rattle.std.proofs.Common.{◌≡◌, ◌⊎◌, ◌↔◌, ℕ, ◌<◌, ◌≤◌, ◌+◌, List, ◌++◌, length, take, drop, get_or, Err, Ok, sym, ◌∙◌, ap, subst, inl, inr, arith}
use Rattle.std.specs.List.{Contains, insert}
use Rattle.std.specs.List.Sorted.{IsBinarySearchResult, IsNonDecreasingBy, IsSortedBy}
use Rattle.std.specs.Ordering.{ordering_index, ordering_reverse, is_lt}
use Rattle.std.specs.declared.cmp.Ordering.{Ordering}
use Rattle.std.specs.declared.cmp.Ordering.TheVariants.{Less, Greater}
use Rattle.std.proofs.lemmas.List.{take-append-drop}
use Rattle.std.proofs.lemmas.List.Sorted.{searchable_from_sorted}
use Rattle.finite_chains.proofs.StrictOrders.{IsRising-from_pairs}
use Rattle.finite_chains.specs.StrictOrder.{IsRising}
use Rattle.cat_items.specs.declared.need.Need.{Need}
use Rattle.cat_items.specs.contracts.need.NeedOrd.TheImpl as need
use Rattle.cat_items.specs.Order.{need_cmp}
use Rattle.cat_items.proofs.OrderLemmas.{same_need, need_cmp-total}
use Rattle.cat_items.proofs.Rising.{pairs_from_rising, fact_from_take, fact_from_drop, rising_insert, Contains-insert}
use Rattle.tree_needs.specs.Ordered.{AreInOrder}
use Rattle.tree_needs.proofs.NeedKeys.{need_is}

comparisons_rise : (needs : List Need) → AreInOrder needs → (x : Need) → IsNonDecreasingBy (λ y. ordering_index (need_cmp y x)) needs
comparisons_rise needs order x = searchable_from_sorted need_cmp-total (λ y. y) needs x sorted
  where
    sorted : IsSortedBy (λ a b. is_lt (need_cmp a b)) needs
    sorted k d low high =
        ap is_lt (need_cmp-total.antisymm (get_or needs (k + 1) d) (get_or needs k d) ∙ ap ordering_reverse (order k (k + 1) d (omega arith) high))

pub found_need : (needs : List Need) (n : Need) (at : ℕ) → at < length needs → IsBinarySearchResult (λ y. need.ghosts.cmp y n) needs (Ok at) → Contains needs n
found_need needs n at low found = (at, low, need_is (get_or needs at n) n (sym (same_need (get_or needs at n) n) ∙ found n))

pub order_insert : (needs : List Need) (n : Need) (at : ℕ) → AreInOrder needs → at ≤ length needs → IsBinarySearchResult (λ y. need.ghosts.cmp y n) needs (Err at) → AreInOrder (insert needs at n)
order_insert needs n at order within found =
    let found' : IsBinarySearchResult (λ y. need_cmp y n) needs (Err at) = subst (λ (r : Need → Ordering). IsBinarySearchResult r needs (Err at)) (λ i y. same_need y n i) found in
    let part = found' (comparisons_rise needs order n) in
    let whole : IsRising need_cmp (take at needs ++ drop at needs) = rw take-append-drop (IsRising-from_pairs need_cmp needs order) in
    let greater : (b : Need) → Contains (drop at needs) b → need_cmp b n ≡ Greater = fact_from_drop (λ y. need_cmp y n ≡ Greater) needs at (λ k d low high. part.1 k d low high) in
    pairs_from_rising need_cmp (insert needs at n) (rising_insert need_cmp need_cmp-total (take at needs) (drop at needs) n whole
    (fact_from_take (λ y. need_cmp y n ≡ Less) needs at within (λ k d low. part.0 k d (omega arith) low))
    (λ b c less. let more = greater b c in cc)
    (λ b c same. let more = greater b c in cc))

pub members_insert : (needs : List Need) (n : Need) (at : ℕ) (x : Need) → Contains (insert needs at n) x ↔ (Contains needs x ⊎ (x ≡ n))
members_insert needs n at x = subst (λ l. Contains (insert needs at n) x ↔ (Contains l x ⊎ (x ≡ n))) (take-append-drop at needs) (Contains-insert (take at needs) (drop at needs) n x)

-- one that is there already
pub members_stay : (needs : List Need) (n : Need) → Contains needs n → (x : Need) → Contains needs x ↔ (Contains needs x ⊎ (x ≡ n))
members_stay needs n there x = (λ c. inl c, λ h. elim h [ inl c ↦ c | inr e ↦ subst (λ z. Contains needs z) (sym e) there ])
