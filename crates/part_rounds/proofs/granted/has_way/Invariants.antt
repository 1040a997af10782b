use Rattle.std.proofs.Common.{◌≡◌, ◌-◌, ◌≤◌, None}
use Rattle.role_graph.specs.Marked.{marked}
use Rattle.role_graph.proofs.LoopLemmas.{NoneFrom}
use Rattle.part_rounds.specs.Grants.{IsWay}
use Rattle.part_rounds.proofs.granted.has_way.Given as goal

abbrev pub invariant-loop-at : goal.invariant-loop-at
invariant-loop-at l = record {
  room : l.walk ≡ l.initial.walk;
  low : l.initial.at ≤ l.at;
  none : NoneFrom l.c.items None (IsWay (marked l.c.items l.marks) l.grant l.by) l.initial.at l.at;
}

abbrev pub decreases-loop-at : goal.decreases-loop-at
decreases-loop-at l = l.all.end - l.at
