use Rattle.std.proofs.Common.{◌≡◌, ◌≤◌, ◌+◌, ◌-◌, ◌++◌, length, take}
use Rattle.std.specs.List.{flat_map}
use Rattle.item_index.specs.Shelves.{list_at}
use Rattle.board_changes.specs.Leaving.{link_if_stays}
use Rattle.board_changes.proofs.leaving.push_dependents.Given as goal

abbrev pub invariant-loop-dependent : goal.invariant-loop-dependent
invariant-loop-dependent g l = record {
  taken : l.taken.items ≡ l.initial.taken.items ++ flat_map (λ m. link_if_stays l.out.keys m l.node) (take l.at (list_at l.board.dependents l.node));
  ticks : l.steps ≡ l.initial.steps + l.at;
  within : l.at ≤ length (list_at l.board.dependents l.node);
}

abbrev pub decreases-loop-dependent : goal.decreases-loop-dependent
decreases-loop-dependent g l = length (list_at l.board.dependents l.node) - l.at
