use Rattle.std.proofs.Common.{take}
use Rattle.cat_items.specs.Catalogues.{IsInOrder}
use Rattle.catalogue_changes.specs.Parts.{AreArriving}
use Rattle.catalogue_changes.proofs.parts.arriving.Given as goal

abbrev pub invariant-loop-x : goal.invariant-loop-x
invariant-loop-x l = record { order : IsInOrder l.arriving.items; members : AreArriving l.c.items l.leaving.items (take l.x-index l.items) l.arriving.items }
