use Rattle.std.proofs.Common.{◌≤◌, ◌+◌, take}
use Rattle.std.specs.List.{sum_by}
use Rattle.topic_keys.specs.Lists.{Gets}
use Rattle.topic_keys.proofs.Adding.{IsOfFirst}
use Rattle.asked_parts.specs.Under.{AreApart, IsUnderKey, look_ups}
use Rattle.asked_parts.proofs.under.items_under.Given as goal

abbrev pub invariant-loop-key : goal.invariant-loop-key
invariant-loop-key g l = record {
  found : Gets (IsOfFirst (IsUnderKey l.board l.marks.keys) l.keys l.key-index) l.initial.found.items l.found.items;
  apart : AreApart l.board l.marks.keys l.found.items;
  ticks : l.steps ≤ l.fn.steps + sum_by (look_ups l.board) (take l.key-index l.keys);
}
