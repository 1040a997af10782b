use Rattle.std.proofs.Common.{◌≡◌}
use Rattle.table_parts.proofs.Searches.{NoneBelow}
use Rattle.table_parts.proofs.marks.is_among.Given as goal

abbrev pub invariant-loop-other : goal.invariant-loop-other
invariant-loop-other l = record { none : NoneBelow (λ y. y ≡ l.mark) l.marks l.other-index }
