use Rattle.table_names.specs.Taken.{AreOfConstraints}
use Rattle.table_names.proofs.numbers.taken_in.Given as goal

abbrev pub invariant-loop-kind : goal.invariant-loop-kind
invariant-loop-kind l = record { marked : AreOfConstraints l.c.items l.schema l.taken.items }
