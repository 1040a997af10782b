use Rattle.std.proofs.Common.{take}
use Rattle.statement_steps.proofs.Repeats.{Differ}
use Rattle.statement_steps.proofs.repeated.first_again.Given as goal

abbrev pub invariant-loop-at : goal.invariant-loop-at
invariant-loop-at l = record { differ : Differ (take l.at l.names) }
