use Rattle.std.proofs.Common.{◌≡◌, ◌≤◌, ◌+◌, ◌-◌, true, length, take}
use Rattle.std.specs.List.{list_all}
use Rattle.item_index.specs.Shelves.{list_at}
use Rattle.board_plans.specs.Spent.{is_among}
use Rattle.board_plans.proofs.spent.dependents_go.Given as goal

abbrev pub invariant-loop-dependent : goal.invariant-loop-dependent
invariant-loop-dependent g l = record {
  go : list_all (is_among l.going.keys) (take l.at (list_at l.index.dependents l.node)) ≡ true;
  ticks : l.steps ≡ l.initial.steps + l.at;
  within : l.at ≤ length (list_at l.index.dependents l.node);
}

abbrev pub decreases-loop-dependent : goal.decreases-loop-dependent
decreases-loop-dependent g l = length (list_at l.index.dependents l.node) - l.at
