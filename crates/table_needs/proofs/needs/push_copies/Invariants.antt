use Rattle.std.proofs.Common.{◌≡◌, ◌++◌, take}
use Rattle.table_needs.proofs.needs.push_copies.Given as goal

abbrev pub invariant-loop-need : goal.invariant-loop-need
invariant-loop-need l = record { put : l.out ≡ l.initial.out ++ take l.need-index l.needs }
