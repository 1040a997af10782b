use Rattle.table_parts.specs.Columns.{IsPrimaryWith}
use Rattle.table_parts.proofs.Searches.{NoneBelow}
use Rattle.table_parts.proofs.columns.is_not_null.Given as goal

abbrev pub invariant-loop-part : goal.invariant-loop-part
invariant-loop-part l = record { none : NoneBelow (IsPrimaryWith l.definition.column) l.parts l.part-index }
