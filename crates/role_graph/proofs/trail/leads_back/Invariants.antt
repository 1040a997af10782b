use Rattle.std.proofs.Common.{◌≤◌, ◌-◌, length}
use Rattle.std.specs.Option.{option_copied}
use Rattle.std.specs.Vec.{vec_capacity}
use Rattle.role_graph.specs.Trails.{IsTrail}
use Rattle.role_graph.proofs.TrailLemmas.{IsBack}
use Rattle.role_graph.proofs.trail.leads_back.Given as goal

abbrev pub invariant-loop-next : goal.invariant-loop-next
invariant-loop-next l = record {
  trail : IsTrail l.first l.seen l.found.items;
  back : IsBack l.c.items (option_copied l.marks) l.from l.to l.found.items l.next;
  room : length l.seen ≤ vec_capacity l.found;
  capacity : vec_capacity l.initial.found ≤ vec_capacity l.found;
}

abbrev pub decreases-loop-next : goal.decreases-loop-next
decreases-loop-next l = length l.seen - l.next
