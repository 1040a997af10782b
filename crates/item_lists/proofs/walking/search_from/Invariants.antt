use Rattle.std.proofs.Common.{◌≤◌, ◌-◌, length}
use Rattle.item_lists.specs.Walks.{AreBefore}
use Rattle.item_lists.proofs.walking.search_from.Given as goal

abbrev pub invariant-loop-reach : goal.invariant-loop-reach
invariant-loop-reach l = record {
  before : AreBefore l.items l.low l.x;
  from : l.from ≤ l.low;
  reach : l.reach ≤ l.low;
}

abbrev pub decreases-loop-reach : goal.decreases-loop-reach
decreases-loop-reach l = length l.items - l.low
