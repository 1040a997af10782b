use Rattle.table_parts.proofs.Searches.{NoneBelow}
use Rattle.table_constraints.specs.Rules.{IsUntyped}
use Rattle.table_constraints.proofs.types.has_any_untyped.Given as goal

abbrev pub invariant-loop-at : goal.invariant-loop-at
invariant-loop-at l = record { none : NoneBelow (IsUntyped l.c.items l.who l.w) l.named l.at }
