use Rattle.std.proofs.Common.{◌≤◌, length}
use Rattle.std.specs.Option.{option_copied}
use Rattle.std.specs.Vec.{vec_capacity}
use Rattle.role_graph.proofs.TrailLemmas.{IsComing}
use Rattle.role_graph.proofs.trail.come_to_grants.Given as goal

abbrev pub invariant-loop-at : goal.invariant-loop-at
invariant-loop-at l = record {
  coming : IsComing l.c.items (option_copied l.marks) l.role l.sought l.first l.initial.at l.at l.initial.found.items l.seen l.found.items;
  room : length l.seen ≤ vec_capacity l.found;
  capacity : vec_capacity l.initial.found ≤ vec_capacity l.found;
}
