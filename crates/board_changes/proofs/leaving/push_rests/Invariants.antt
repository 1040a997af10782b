use Rattle.std.proofs.Common.{◌≡◌, ◌≤◌, ◌+◌, ◌-◌, ◌++◌, length, map, take}
use Rattle.item_index.specs.Shelves.{list_at}
use Rattle.board_changes.proofs.leaving.push_rests.Given as goal

abbrev pub invariant-loop-rests_on : goal.invariant-loop-rests_on
invariant-loop-rests_on g l = record {
  taken : l.taken.items ≡ l.initial.taken.items ++ map (λ m. (l.node, m)) (take l.at (list_at l.board.rests l.node));
  ticks : l.steps ≡ l.initial.steps + l.at;
  within : l.at ≤ length (list_at l.board.rests l.node);
}

abbrev pub decreases-loop-rests_on : goal.decreases-loop-rests_on
decreases-loop-rests_on g l = length (list_at l.board.rests l.node) - l.at
