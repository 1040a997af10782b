use Rattle.item_lists.proofs.Steps.{HasPassed}
use Rattle.part_rescue.proofs.Clear.{IsClearTo}
use Rattle.part_rescue.proofs.rescue.clear.Given as goal

abbrev pub invariant-loop-at : goal.invariant-loop-at
invariant-loop-at l = record {
  clear : IsClearTo l.suspects.items l.part.items l.marks l.at;
  passed : HasPassed l.part.items l.at l.suspects.items l.from;
}
