use Rattle.role_graph.proofs.TrailLemmas.{AreLeft}
use Rattle.role_graph.proofs.trail.clear.Given as goal

abbrev pub invariant-loop-at : goal.invariant-loop-at
invariant-loop-at l = AreLeft l.first l.initial.seen l.seen l.found l.at-index
