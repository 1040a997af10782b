use Rattle.std.proofs.Common.{◌≤◌, ◌+◌, ◌*◌, ◌-◌, length}
use Rattle.item_index.specs.Shelves.{list_at}
use Rattle.topic_keys.specs.Lists.{Gets}
use Rattle.topic_keys.proofs.Adding.{IsOfFirst}
use Rattle.asked_parts.specs.Under.{AreApart, IsUnmarkedAt}
use Rattle.asked_parts.proofs.under.put_rests.Given as goal

abbrev pub invariant-loop-number : goal.invariant-loop-number
invariant-loop-number g l = record {
  found : Gets (IsOfFirst (IsUnmarkedAt l.board l.marks.keys) (list_at l.board.rests l.node) l.at) l.initial.found.items l.found.items;
  apart : AreApart l.board l.marks.keys l.found.items;
  ticks : l.steps ≤ l.initial.steps + 2 * l.at;
  within : l.at ≤ length (list_at l.board.rests l.node);
}

abbrev pub decreases-loop-number : goal.decreases-loop-number
decreases-loop-number g l = length (list_at l.board.rests l.node) - l.at
