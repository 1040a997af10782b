use Rattle.std.proofs.Common.{◌≤◌, ◌+◌}
use Rattle.topic_keys.specs.Lists.{Gets}
use Rattle.topic_keys.proofs.Adding.{IsOfFirst}
use Rattle.asked_parts.specs.Rounds.{IsAddedTo}
use Rattle.asked_parts.proofs.beginning.begun.Given as goal

abbrev pub invariant-loop-x : goal.invariant-loop-x
invariant-loop-x g l = record {
  members : Gets (IsOfFirst (IsAddedTo l.board l.marks.keys) l.suspects l.x-index) l.initial.part.items l.part.items;
  ticks : l.steps ≤ l.initial.steps + l.x-index;
}
