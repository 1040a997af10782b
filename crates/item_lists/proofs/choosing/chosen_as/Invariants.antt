use Rattle.std.proofs.Common.{take}
use Rattle.edit_rules.specs.Chosen.{AreChosen}
use Rattle.item_lists.specs.Walks.{StandsAs}
use Rattle.item_lists.proofs.Steps.{HasPassed}
use Rattle.item_lists.proofs.choosing.chosen_as.Given as goal

abbrev pub invariant-loop-x : goal.invariant-loop-x
invariant-loop-x l = record {
  chosen : AreChosen (take l.x-index l.items) (StandsAs l.there l.other) l.found.items;
  passed : HasPassed l.items l.x-index l.other l.from;
}
