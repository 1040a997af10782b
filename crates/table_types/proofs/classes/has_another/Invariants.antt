use Rattle.table_parts.proofs.Searches.{NoneBelow}
use Rattle.table_types.specs.Types.{IsAnother}
use Rattle.table_types.proofs.classes.has_another.Given as goal

abbrev pub invariant-loop-column : goal.invariant-loop-column
invariant-loop-column l = record { none : NoneBelow (IsAnother l.name l.class) l.columns l.column-index }
