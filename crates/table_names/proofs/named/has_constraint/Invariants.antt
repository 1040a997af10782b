use Rattle.table_parts.proofs.Searches.{NoneBelow}
use Rattle.table_names.specs.Named.{IsNamed}
use Rattle.table_names.proofs.named.has_constraint.Given as goal

abbrev pub invariant-loop-constraint : goal.invariant-loop-constraint
invariant-loop-constraint l = record { none : NoneBelow (IsNamed l.name) l.named l.constraint-index }
