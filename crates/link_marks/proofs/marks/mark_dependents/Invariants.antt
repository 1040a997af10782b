use Rattle.std.proofs.Common.{◌≡◌, ◌≤◌, ◌+◌, ◌-◌, length, take}
use Rattle.item_index.specs.Shelves.{list_at}
use Rattle.link_marks.specs.Marked.{Grows}
use Rattle.link_marks.proofs.marks.mark_dependents.Given as goal

abbrev pub invariant-loop-dependent : goal.invariant-loop-dependent
invariant-loop-dependent g l = record {
  grown : Grows (take l.at (list_at l.index.dependents l.node)) l.initial.marked.keys l.marked.keys;
  ticks : l.steps ≡ l.initial.steps + l.at;
  within : l.at ≤ length (list_at l.index.dependents l.node);
}

abbrev pub decreases-loop-dependent : goal.decreases-loop-dependent
decreases-loop-dependent g l = length (list_at l.index.dependents l.node) - l.at
