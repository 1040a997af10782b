use Rattle.std.proofs.Common.{◌≡◌, length}
use Rattle.std.specs.Vec.{vec_capacity}
use Rattle.cat_items.specs.Supported.{Supported}
use Rattle.role_graph.specs.Marked.{marked}
use Rattle.part_rounds.specs.Grown.{IsWorklist}
use Rattle.part_rounds.specs.Options.{Knows}
use Rattle.part_rounds.proofs.RoundLemmas.{IsDone, IsUnderWay}
use Rattle.part_rounds.proofs.rounds.pass_back.Given as goal

abbrev pub invariant-loop-step : goal.invariant-loop-step
invariant-loop-step l = record {
  room : l.walk ≡ l.initial.walk;
  way : IsUnderWay (Supported l.c.items) l.c.items l.initial.marks l.marks l.more (IsDone (length l.c.items) l.turn l.rest l.step);
  found : Knows l.c.items (marked l.c.items l.marks) l.found;
  list : IsWorklist l.c.items l.marks l.list.items (vec_capacity l.list);
}
