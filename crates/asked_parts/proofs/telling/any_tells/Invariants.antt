use Rattle.asked_parts.specs.Rounds.{Tells}
use Rattle.asked_parts.proofs.TellLaws.{NoneBelow}
use Rattle.asked_parts.proofs.telling.any_tells.Given as goal

abbrev pub invariant-loop-item : goal.invariant-loop-item
invariant-loop-item l = record { none : NoneBelow (Tells l.part.items) l.items l.item-index }
