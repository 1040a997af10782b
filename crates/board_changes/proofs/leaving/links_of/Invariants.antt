use Rattle.std.proofs.Common.{◌≡◌, ◌≤◌, ◌+◌, take}
use Rattle.std.specs.List.{flat_map, sum_by}
use Rattle.board_changes.specs.Leaving.{links_with, look_ups_with}
use Rattle.board_changes.proofs.leaving.links_of.Given as goal

abbrev pub invariant-loop-number : goal.invariant-loop-number
invariant-loop-number g l = record {
  taken : l.taken.items ≡ flat_map (links_with l.board l.out) (take l.number-index l.out);
  few : l.steps ≤ l.initial.steps + sum_by (look_ups_with l.board) (take l.number-index l.out);
}
