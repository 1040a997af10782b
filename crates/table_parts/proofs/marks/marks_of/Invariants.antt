use Rattle.std.proofs.Common.{◌≡◌, take}
use Rattle.table_parts.specs.Marks.{marks_from}
use Rattle.table_parts.proofs.marks.marks_of.Given as goal

abbrev pub invariant-loop-at : goal.invariant-loop-at
invariant-loop-at l = record { marks : l.marks ≡ marks_from 0 (take l.at l.parts) }
