use Rattle.reached_roles.specs.Edges.{AreEdgesBelow}
use Rattle.reached_roles.proofs.edges.edges_of.Given as goal

abbrev pub invariant-loop-at : goal.invariant-loop-at
invariant-loop-at l = record { listed : AreEdgesBelow l.c.items l.edges.items l.at }
