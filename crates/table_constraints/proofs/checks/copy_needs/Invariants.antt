use Rattle.std.proofs.Common.{◌≡◌, take}
use Rattle.table_constraints.proofs.checks.copy_needs.Given as goal

abbrev pub invariant-loop-need : goal.invariant-loop-need
invariant-loop-need l = record { copied : l.copy ≡ take l.need-index l.needs }
