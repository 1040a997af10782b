use Rattle.std.proofs.Common.{◌≡◌, ◌∙◌}
use Rattle.cat_items.specs.declared.item.Item.{Item}
use Rattle.cat_items.specs.declared.item.Item.TheVariants as item
use Rattle.cat_items.specs.Order.{item_cmp}
use Rattle.cat_items.proofs.OrderLemmas.{same_order}
use Rattle.role_graph.proofs.LoopLemmas.{at_item}
use Rattle.part_rounds.proofs.granted.compare_held.Goals as goal

pub returns-in-Held : goal.returns-in-Held
returns-in-Held c =
    at_item (λ (y : Item). c.cmp.result ≡ item_cmp y (item.Held c.args.right.now)) item.Held _ _ _ c.in-Held.is c.get.ensures
    (c.cmp.ensures ∙ same_order (item.Held c.get.result.now) (item.Held c.args.right.now))
