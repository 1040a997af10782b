use Rattle.std.proofs.Common.{◌≡◌, ◌+◌, ◌≤◌, not, length, count_by}
use Rattle.std.specs.Vec.{vec_capacity}
use Rattle.cat_items.specs.Supported.{Supported}
use Rattle.role_graph.specs.Marked.{marked}
use Rattle.part_rounds.specs.Grown.{HaveGrown, IsWorklist}
use Rattle.part_rounds.specs.Options.{Knows}
use Rattle.part_rounds.proofs.following.mark_following.Given as goal

abbrev pub invariant-loop-next : goal.invariant-loop-next
invariant-loop-next l = record {
  room : l.walk ≡ l.initial.walk;
  grown : HaveGrown (Supported l.c.items) l.c.items l.initial.marks l.marks;
  found : Knows l.c.items (marked l.c.items l.marks) l.found;
  list : IsWorklist l.c.items l.marks l.list.items (vec_capacity l.list);
  left : length l.list.items + count_by not l.marks ≤ length l.initial.list.items + count_by not l.initial.marks;
}
