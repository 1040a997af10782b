use Rattle.std.proofs.Common.{◌≡◌}
use Rattle.role_graph.proofs.CycleLemmas.{NoneCloses}
use Rattle.role_graph.proofs.cycle.has_cycle.Given as goal

abbrev pub invariant-loop-at : goal.invariant-loop-at
invariant-loop-at l = record {
  room : l.walk ≡ l.initial.walk;
  none : NoneCloses l.c.items l.initial.at l.at;
}
