use Rattle.std.proofs.Common.{◌↔◌, take}
use Rattle.std.specs.List.{Contains}
use Rattle.cat_items.specs.declared.item.Item.{Item}
use Rattle.domain_drop.specs.Lists.{IsFreedAmong}
use Rattle.domain_drop.proofs.freeing.put_back.Given as goal

abbrev pub invariant-loop-x : goal.invariant-loop-x
invariant-loop-x l = record { members : (y : Item) → Contains l.added.items y ↔ IsFreedAmong l.c.items (take l.x-index l.columns) y }
