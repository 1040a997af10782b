use Rattle.std.proofs.Common.{◌↔◌, ◌⊎◌, take}
use Rattle.std.specs.List.{Contains}
use Rattle.cat_items.specs.declared.item.Item.{Item}
use Rattle.domain_drop.specs.Lists.{IsAmong}
use Rattle.domain_drop.proofs.freeing.put_copies.Given as goal

abbrev pub invariant-loop-copy : goal.invariant-loop-copy
invariant-loop-copy l = record { members : (y : Item) → Contains l.added.items y ↔ (Contains l.initial.added.items y ⊎ IsAmong (take l.copy-index l.copies) y) }
