use Rattle.std.proofs.Common.{◌≡◌, rules}
use Rattle.std.specs.List.{dedup}
use Rattle.std.specs.List.Sorted.{IsSorted}
use Rattle.std.specs.Ordering.{is_lt}
use Rattle.std.proofs.lemmas.Fn.{always_returns_same, dedup_same}
use Rattle.std.proofs.lemmas.List.Sorted.{ranks_by}
use Rattle.cat_items.specs.declared.item.Item.{Item}
use Rattle.cat_items.specs.Order.{item_cmp}
use Rattle.cat_items.proofs.OrderLemmas.{item_cmp-total}
use Rattle.topic_keys.proofs.OrderLaws.{alike, each_once}
use Rattle.topic_keys.proofs.order.in_order.Goals as goal

-- both closures compare by the order of items
pub returns : goal.returns
returns c =
    let sorted : IsSorted item_cmp c.sort_unstable_by.new.self.items = c.sort_unstable_by.ensures.sorted (λ x y. is_lt (item_cmp x y)) (ranks_by item_cmp-total (λ (x : Item). x)) (always_returns_same _ _ _ (λ a r g called. (search rules, search rules))) in
    let kept : c.dedup_by.new.self.items ≡ dedup alike c.sort_unstable_by.new.self.items = dedup_same _ alike _ (λ x y b f' x' y' k. search rules) _ _ c.dedup_by.ensures.filtered in
    each_once _ _ _ c.requires c.sort_unstable_by.ensures.permutation sorted kept
