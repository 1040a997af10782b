use Rattle.std.proofs.Common.{◌≡◌, ◌∙◌}
use Rattle.cat_items.specs.declared.item.Item.{Item}
use Rattle.cat_items.specs.declared.item.Item.TheVariants as item
use Rattle.cat_items.specs.Order.{item_cmp}
use Rattle.cat_items.proofs.OrderLemmas.{same_order}
use Rattle.role_graph.proofs.LoopLemmas.{at_item}
use Rattle.part_rounds.proofs.granted.compare_role.Goals as goal

pub returns-in-RoleAuth : goal.returns-in-RoleAuth
returns-in-RoleAuth c =
    at_item (λ (y : Item). c.cmp.result ≡ item_cmp y (item.RoleAuth c.args.grant.now)) item.RoleAuth _ _ _ c.in-RoleAuth.is c.get.ensures
    (c.cmp.ensures ∙ same_order (item.RoleAuth c.get.result.now) (item.RoleAuth c.args.grant.now))
