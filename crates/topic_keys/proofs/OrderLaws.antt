-- What is left of items in order, and keys that are known by themselves.
use Rattle.std.proofs.Common.{◌≡◌, ◌↔◌, Bool, List, refl, sym, subst}
use Rattle.std.specs.List.{AllPairs, Contains, dedup}
use Rattle.std.specs.List.Sorted.{IsPermutation, IsSorted, IsStrictlySortedBy}
use Rattle.std.specs.Ordering.{is_eq}
use Rattle.std.specs.Cmp.{Equal-is, eq_by_cmp_equiv}
use Rattle.std.specs.declared.cmp.Ordering.TheVariants.{Less}
use Rattle.std.proofs.lemmas.List.Kept.{Any-dedup, Contains-from_dedup, IsStrictlySortedBy-dedup}
use Rattle.std.proofs.lemmas.List.Sorted.{Contains-permutation, IsPermutation-sym}
use Rattle.std.proofs.lemmas.Map.Keys.{Less-from_sorted}
use Rattle.cat_items.specs.declared.item.Item.{Item}
use Rattle.cat_items.specs.Order.{item_cmp}
use Rattle.cat_items.proofs.OrderLemmas.{item_cmp-total}
use Rattle.cascade_laws.specs.Topics.{Topic}
use Rattle.edit_rules.specs.Chosen.{AreAll, IsRightOrRoleGrant}
use Rattle.edit_rules.proofs.ItemKeys.{one_granted}
use Rattle.topic_keys.specs.Lists.{AreKnownByKey, IsKeyWhere}
use Rattle.topic_keys.proofs.Adding.{topic_granted}

-- they have one key
abbrev pub alike : Item → Item → Bool
alike x y = is_eq (item_cmp x y)

-- of items in order that are known by their keys each is left
pub each_left : (items moved : List Item) → AreKnownByKey items → IsPermutation items moved → (x : Item) → Contains items x → Contains (dedup alike moved) x
each_left items moved known is x there =
    let by = Any-dedup (eq_by_cmp_equiv item_cmp-total) moved x (Contains-permutation items moved x is there) in
    let y = by.1 in
    let left : Contains (dedup alike moved) y = (by.0, by.2, by.3) in
    let before : Contains items y = Contains-permutation moved items y (IsPermutation-sym items moved is) (Contains-from_dedup alike moved y left) in
    subst (Contains (dedup alike moved)) (sym (known x y there before ((Equal-is (item_cmp x y)).0 by.4))) left

pub each_once : (items moved left : List Item) → AreKnownByKey items → IsPermutation items moved → IsSorted item_cmp moved → left ≡ dedup alike moved → AreAll (Contains items) left
each_once items moved left known is sorted kept =
    let strict : IsStrictlySortedBy item_cmp (dedup alike moved) = IsStrictlySortedBy-dedup item_cmp-total (λ x y. refl) moved sorted in
    record {
      order = subst (AllPairs (λ a b. item_cmp a b ≡ Less)) (sym kept) (λ i j d p q. Less-from_sorted item_cmp (dedup alike moved) i j d strict p q);
      members = λ x. (
        λ h. Contains-permutation moved items x (IsPermutation-sym items moved is) (Contains-from_dedup alike moved x (subst (λ l. Contains l x) kept h)),
        λ h. subst (λ l. Contains l x) (sym kept) (each_left items moved known is x h),
      );
    }

-- keys of topics are known by themselves
pub keys_known : (P : Topic → Type 0) (keys : List Item) → ((k : Item) → Contains keys k → IsKeyWhere P k) → AreKnownByKey keys
keys_known P keys are x y here there e = let of = are y there in one_granted x y (subst IsRightOrRoleGrant (sym of.2) (topic_granted of.0)) e

-- so are all keys, put in order
pub keys_in_order : (P : Topic → Type 0) (keys left all : List Item) → ((k : Item) → Contains keys k ↔ IsKeyWhere P k) → AreAll (Contains keys) left → all ≡ left → AreAll (IsKeyWhere P) all
keys_in_order P keys left all are in_order e = subst (AreAll (IsKeyWhere P)) (sym e) (record {
  order = in_order.order;
  members = λ k. (λ h. (are k).0 ((in_order.members k).0 h), λ h. (in_order.members k).1 ((are k).1 h));
})
