use Rattle.std.proofs.Common.{take}
use Rattle.table_parts.specs.Marks.{MarksDiffer}
use Rattle.table_parts.proofs.marks.first_repeated.Given as goal

abbrev pub invariant-loop-at : goal.invariant-loop-at
invariant-loop-at l = record { differ : MarksDiffer (take l.at l.marks) }
