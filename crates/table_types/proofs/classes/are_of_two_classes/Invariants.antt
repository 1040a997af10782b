use Rattle.table_parts.proofs.Searches.{NoneBelow}
use Rattle.table_types.specs.Types.{DiffersFrom}
use Rattle.table_types.proofs.classes.are_of_two_classes.Given as goal

abbrev pub invariant-loop-x : goal.invariant-loop-x
invariant-loop-x l = record { none : NoneBelow (DiffersFrom l.others l.column l.name) l.own l.x-index }
