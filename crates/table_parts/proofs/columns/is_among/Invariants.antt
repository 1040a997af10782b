use Rattle.std.proofs.Common.{◌≡◌}
use Rattle.table_parts.proofs.Searches.{NoneBelow}
use Rattle.table_parts.proofs.columns.is_among.Given as goal

abbrev pub invariant-loop-other : goal.invariant-loop-other
invariant-loop-other l = record { none : NoneBelow (λ y. y ≡ l.name) l.names l.other-index }
