use Rattle.std.proofs.Common.{◌≤◌, length, take}
use Rattle.edit_rules.specs.Chosen.{AreChosen}
use Rattle.chosen_parts.proofs.Covering.{AllEndBy}
use Rattle.chosen_parts.proofs.choosing.chosen_in.Given as goal

abbrev pub invariant-loop-range : goal.invariant-loop-range
invariant-loop-range g l = record {
  within : l.at ≤ length l.c.items;
  chosen : AreChosen (take l.at l.c.items) (g.T.Chooses.fits l.test) l.found.items;
  ends : AllEndBy (take l.range-index l.range-items) l.at;
}
