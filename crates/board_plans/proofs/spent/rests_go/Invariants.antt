use Rattle.std.proofs.Common.{◌≡◌, ◌≤◌, ◌+◌, ◌-◌, true, length, take}
use Rattle.std.specs.List.{list_all}
use Rattle.item_index.specs.Shelves.{list_at}
use Rattle.board_plans.specs.Spent.{is_among}
use Rattle.board_plans.proofs.spent.rests_go.Given as goal

abbrev pub invariant-loop-rests_on : goal.invariant-loop-rests_on
invariant-loop-rests_on g l = record {
  go : list_all (is_among l.going.keys) (take l.at (list_at l.index.rests l.node)) ≡ true;
  ticks : l.steps ≡ l.initial.steps + l.at;
  within : l.at ≤ length (list_at l.index.rests l.node);
}

abbrev pub decreases-loop-rests_on : goal.decreases-loop-rests_on
decreases-loop-rests_on g l = length (list_at l.index.rests l.node) - l.at
