use Rattle.std.proofs.Common.{◌≤◌, ◌+◌, take}
use Rattle.std.specs.List.{AllZip}
use Rattle.item_index.specs.Graphs.{HasKey}
use Rattle.board_changes.proofs.leaving.keys_of.Given as goal

abbrev pub invariant-loop-number : goal.invariant-loop-number
invariant-loop-number g l = record {
  keys : AllZip (HasKey l.board) (take l.number-index l.out) l.keys.items;
  few : l.steps ≤ l.initial.steps + l.number-index;
}
