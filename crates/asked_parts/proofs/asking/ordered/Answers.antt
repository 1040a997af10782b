use Rattle.std.proofs.Common.{◌≡◌, ◌↔◌, List, rules, subst, sym}
use Rattle.std.specs.List.{Contains}
use Rattle.cat_items.specs.declared.item.Item.{Item}
use Rattle.asked_parts.proofs.SetLaws.{known_still}
use Rattle.asked_parts.proofs.asking.ordered.Goals as goal

pub in_order-requires : goal.in_order-requires
in_order-requires c =
    let listed : c.in_ok-distinct.distinct.items ≡ c.in_ok-set.set.keys = search rules in
    known_still c.args.keys.items c.in_ok-distinct.distinct.items c.requires (subst (λ (l : List Item). (k : Item) → Contains l k ↔ Contains c.args.keys.items k) (sym listed) c.in_ok-set.ensures)

pub returns : goal.returns
returns c =
    let listed : c.in_ok-distinct.distinct.items ≡ c.in_ok-set.set.keys = search rules in
    let are = subst (λ (l : List Item). (k : Item) → Contains l k ↔ Contains c.args.keys.items k) (sym listed) c.in_ok-set.ensures in
    λ k. (
      λ h. (are k).0 ((c.in_order.ensures.members k).0 (subst (λ l. Contains l k) c.of_sorted.ensures.items h)),
      λ h. subst (λ l. Contains l k) (sym c.of_sorted.ensures.items) ((c.in_order.ensures.members k).1 ((are k).1 h)),
    )
