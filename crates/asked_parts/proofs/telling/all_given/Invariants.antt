use Rattle.asked_parts.specs.Rounds.{IsGiven}
use Rattle.asked_parts.proofs.TellLaws.{AllBelow}
use Rattle.asked_parts.proofs.telling.all_given.Given as goal

abbrev pub invariant-loop-item : goal.invariant-loop-item
invariant-loop-item l = record { all : AllBelow IsGiven l.items l.item-index }
