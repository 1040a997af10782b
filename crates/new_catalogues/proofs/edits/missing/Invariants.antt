use Rattle.std.proofs.Common.{take}
use Rattle.cat_items.specs.Catalogues.{IsInOrder}
use Rattle.new_catalogues.specs.Joining.{AreMissing}
use Rattle.new_catalogues.proofs.edits.missing.Given as goal

abbrev pub invariant-loop-x : goal.invariant-loop-x
invariant-loop-x l = record {
  order : IsInOrder l.missing.items;
  members : AreMissing l.c.items (take l.x-index l.items) l.missing.items;
}
