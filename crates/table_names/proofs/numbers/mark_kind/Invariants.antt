use Rattle.table_names.specs.Taken.{AreOfConstraints}
use Rattle.table_names.proofs.numbers.mark_kind.Given as goal

abbrev pub invariant-loop-at : goal.invariant-loop-at
invariant-loop-at l = record { marked : AreOfConstraints l.c.items l.schema l.taken.items }
