use Rattle.part_rounds.specs.Grantees.{AreOptionsBelow}
use Rattle.part_rounds.proofs.grantees.options_of.Given as goal

abbrev pub invariant-loop-at : goal.invariant-loop-at
invariant-loop-at l = record { listed : AreOptionsBelow l.c.items l.options.items l.at }
