use Rattle.std.proofs.Common.{◌⊎◌, take}
use Rattle.std.specs.List.{Contains}
use Rattle.cat_items.specs.declared.item.Item.{Item}
use Rattle.edit_rules.specs.Chosen.{AreChosen}
use Rattle.asked_parts.proofs.growing.new_copies.Given as goal

abbrev pub invariant-loop-item : goal.invariant-loop-item
invariant-loop-item l = record {
  chosen : AreChosen (take l.item-index l.items) (λ y. ¬ (Contains l.part.items y)) l.new.items;
  either : (y : Item) → Contains (take l.item-index l.items) y → Contains l.part.items y ⊎ Contains l.new.items y;
}
