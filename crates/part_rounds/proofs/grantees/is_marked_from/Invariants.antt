use Rattle.part_rounds.proofs.TitleLaws.{NoneMarked}
use Rattle.part_rounds.proofs.grantees.is_marked_from.Given as goal

abbrev pub invariant-loop-at : goal.invariant-loop-at
invariant-loop-at l = record { none : NoneMarked l.options l.marks l.start l.at }
