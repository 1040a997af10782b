use Rattle.table_parts.specs.Parts.{DefinesColumn}
use Rattle.table_parts.proofs.Searches.{NoneBelow}
use Rattle.table_parts.proofs.columns.has_column.Given as goal

abbrev pub invariant-loop-part : goal.invariant-loop-part
invariant-loop-part l = record { none : NoneBelow (DefinesColumn l.name) l.parts l.part-index }
