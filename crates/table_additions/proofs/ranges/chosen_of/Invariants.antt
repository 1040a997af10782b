use Rattle.std.proofs.Common.{take}
use Rattle.edit_rules.specs.Chosen.{AreChosen}
use Rattle.table_additions.proofs.ranges.chosen_of.Given as goal

abbrev pub invariant-loop-x : goal.invariant-loop-x
invariant-loop-x g l = AreChosen (take l.x-index l.items) (g.T.Chooses.fits l.test) l.found.items
