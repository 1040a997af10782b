use Rattle.std.proofs.Common.{take}
use Rattle.edit_rules.specs.Chosen.{AreChosen}
use Rattle.chosen_parts.proofs.choosing.choose_between.Given as goal

abbrev pub invariant-loop-at : goal.invariant-loop-at
invariant-loop-at g l = AreChosen (take l.at l.items) (g.T.Chooses.fits l.test) l.found.items
