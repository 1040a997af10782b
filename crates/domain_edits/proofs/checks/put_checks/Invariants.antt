use Rattle.std.proofs.Common.{◌↔◌, ◌⊎◌, take}
use Rattle.std.specs.List.{Contains}
use Rattle.cat_items.specs.declared.item.Item.{Item}
use Rattle.domain_edits.specs.Found.{IsCheckAmong}
use Rattle.domain_edits.proofs.checks.put_checks.Given as goal

abbrev pub invariant-loop-at : goal.invariant-loop-at
invariant-loop-at l = record { members : (x : Item) → Contains l.added.items x ↔ (Contains l.initial.added.items x ⊎ IsCheckAmong l.domain (take l.at l.named) (take l.at l.all) x) }
