use Rattle.std.proofs.Common.{◌≡◌}
use Rattle.std.specs.Vec.{vec_capacity}
use Rattle.cat_items.specs.Supported.{Supported}
use Rattle.role_graph.specs.Marked.{marked}
use Rattle.part_rounds.specs.Grown.{IsWorklist}
use Rattle.part_rounds.specs.Options.{Knows}
use Rattle.part_rounds.proofs.RoundLemmas.{GoesForth}
use Rattle.part_rounds.proofs.rounds.pass_forth.Given as goal

abbrev pub invariant-loop-at : goal.invariant-loop-at
invariant-loop-at l = record {
  room : l.walk ≡ l.initial.walk;
  way : GoesForth (Supported l.c.items) l.c.items l.initial.marks l.marks l.rest l.at;
  found : Knows l.c.items (marked l.c.items l.marks) l.found;
  list : IsWorklist l.c.items l.marks l.list.items (vec_capacity l.list);
}
