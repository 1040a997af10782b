use Rattle.table_parts.specs.Columns.{IsPrimaryWith}
use Rattle.table_parts.proofs.Searches.{NoneBelow}
use Rattle.table_additions.proofs.columns.has_primary_with.Given as goal

abbrev pub invariant-loop-part : goal.invariant-loop-part
invariant-loop-part l = record { none : NoneBelow (IsPrimaryWith l.name) l.parts l.part-index }
