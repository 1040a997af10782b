use Rattle.table_parts.proofs.Searches.{NoneBelow}
use Rattle.table_work.specs.Seen.{IsCalled}
use Rattle.table_work.proofs.columns.has_column_called.Given as goal

abbrev pub invariant-loop-column : goal.invariant-loop-column
invariant-loop-column l = record { none : NoneBelow (IsCalled l.name) l.columns l.column-index }
