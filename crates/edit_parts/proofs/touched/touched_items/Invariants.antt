use Rattle.std.proofs.Common.{◌≤◌, ◌+◌}
use Rattle.topic_keys.specs.Lists.{Gets}
use Rattle.topic_keys.proofs.Adding.{IsOfFirst}
use Rattle.edit_parts.specs.Touched.{IsRightAt, IsLeftAt}
use Rattle.edit_parts.proofs.touched.touched_items.Given as goal

abbrev pub invariant-loop-number : goal.invariant-loop-number
invariant-loop-number g l = record {
  items : Gets (IsOfFirst (IsLeftAt l.board l.edit) l.marks.keys l.number-index) l.initial.items.items l.items.items;
  rights : Gets (IsOfFirst (IsRightAt l.board) l.marks.keys l.number-index) l.initial.rights.items l.rights.items;
  ticks : l.steps ≤ l.initial.steps + l.number-index;
}
