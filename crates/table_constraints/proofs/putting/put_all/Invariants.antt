use Rattle.std.proofs.Common.{◌↔◌, ◌⊎◌, take}
use Rattle.std.specs.List.{Contains}
use Rattle.cat_items.specs.declared.item.Item.{Item}
use Rattle.table_constraints.proofs.putting.put_all.Given as goal

abbrev pub invariant-loop-x : goal.invariant-loop-x
invariant-loop-x l = record { members : (x : Item) → Contains l.added.items x ↔ (Contains l.initial.added.items x ⊎ Contains (take l.x-index l.items) x) }
