use Rattle.std.proofs.Common.{◌≡◌, refl, sym, subst, ◌∙◌, rules, Bool}
use Rattle.std.specs.List.{Contains, AllPairs, dedup}
use Rattle.std.specs.List.Sorted.{IsSorted, IsStrictlySortedBy}
use Rattle.std.specs.declared.cmp.Ordering.TheVariants.{Less}
use Rattle.std.specs.Ordering.{is_lt, is_eq}
use Rattle.std.specs.Cmp.{Equal-is, eq_by_cmp_equiv}
use Rattle.std.proofs.lemmas.Fn.{always_returns_same, dedup_same}
use Rattle.std.proofs.lemmas.List.Kept.{IsStrictlySortedBy-dedup, Contains-dedup, Contains-from_dedup}
use Rattle.std.proofs.lemmas.List.Sorted.{ranks_by, Contains-permutation, IsPermutation-sym}
use Rattle.std.proofs.lemmas.Map.Keys.{Less-from_sorted}
use Rattle.cat_items.specs.declared.need.Need.{Need}
use Rattle.cat_items.specs.Order.{need_cmp}
use Rattle.cat_items.proofs.OrderLemmas.{need_cmp-total}
use Rattle.tree_needs.proofs.NeedKeys.{need_is}
use Rattle.body_needs.proofs.need_order.each_once.Goals as goal

abbrev alike : Need → Need → Bool
alike x y = is_eq (need_cmp x y)

-- both closures compare by the order of needs
pub returns : goal.returns
returns c =
    let sorted : IsSorted need_cmp c.sort_unstable_by.new.self.items = c.sort_unstable_by.ensures.sorted (λ x y. is_lt (need_cmp x y)) (ranks_by need_cmp-total (λ (n : Need). n)) (always_returns_same _ _ _ (λ a r g called. (search rules, search rules))) in
    let kept : c.dedup_by.new.self.items ≡ dedup alike c.sort_unstable_by.new.self.items = dedup_same _ alike _ (λ x y b f' x' y' k. search rules) _ _ c.dedup_by.ensures.filtered in
    let strict : IsStrictlySortedBy need_cmp (dedup alike c.sort_unstable_by.new.self.items) = IsStrictlySortedBy-dedup need_cmp-total (λ x y. refl) _ sorted in
    let all = c.from_vec.ensures ∙ kept in
    record {
      order = subst (AllPairs (λ a b. need_cmp a b ≡ Less)) (sym all) (λ i j d p q. Less-from_sorted need_cmp _ i j d strict p q);
      members = λ need. (
        λ h. Contains-permutation _ _ need (IsPermutation-sym _ _ c.sort_unstable_by.ensures.permutation) (Contains-from_dedup alike _ need (subst (λ l. Contains l need) all h)),
        λ h. subst (λ l. Contains l need) (sym all) (Contains-dedup (eq_by_cmp_equiv need_cmp-total) (λ x y e. need_is x y ((Equal-is (need_cmp x y)).0 e)) _ need (Contains-permutation _ _ need c.sort_unstable_by.ensures.permutation h)),
      );
    }
