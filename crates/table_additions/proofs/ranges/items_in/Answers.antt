use Rattle.std.proofs.Common.{◌↔◌, ◌-◌, List, take, drop, sym, subst}
use Rattle.std.specs.List.{Contains}
use Rattle.cat_items.specs.declared.item.Item.{Item}
use Rattle.cat_items.specs.Catalogues.{IsInOrder}
use Rattle.cat_items.specs.Ranges.{IsIn}
use Rattle.table_additions.proofs.RangeLists.{stretch_members, stretch_order}
use Rattle.table_additions.proofs.ranges.items_in.Goals as goal

pub returns-clause-order : goal.returns-clause-order
returns-clause-order c =
    subst (λ (l : List Item). IsInOrder (take (c.places.result.end - c.places.result.start) (drop c.places.result.start l))) (sym c.items.ensures.items)
    (stretch_order c.args.c.now.items c.places.result.start c.places.result.end (IsIn c.args.part) c.places.ensures c.items.ensures.order)

pub returns-clause-members : goal.returns-clause-members
returns-clause-members c =
    subst (λ (l : List Item). (x : Item) → Contains (take (c.places.result.end - c.places.result.start) (drop c.places.result.start l)) x ↔ (Contains c.args.c.now.items x × IsIn c.args.part x)) (sym c.items.ensures.items)
    (stretch_members c.args.c.now.items c.places.result.start c.places.result.end (IsIn c.args.part) c.places.ensures)
