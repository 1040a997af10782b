use Rattle.std.proofs.Common.{◌≡◌, ◌≤◌, ◌+◌, filter, take}
use Rattle.std.specs.List.{sum_by}
use Rattle.board_plans.specs.Spent.{has_no_other, is_among, links_cost}
use Rattle.board_plans.proofs.spent.spent_of.Given as goal

abbrev pub invariant-loop-number : goal.invariant-loop-number
invariant-loop-number g l = record {
  spent : l.spent.items ≡ filter (has_no_other (is_among l.going.keys) l.index) (take l.number-index l.numbers);
  few : l.steps ≤ l.initial.steps + sum_by (links_cost (is_among l.going.keys) l.index) (take l.number-index l.numbers);
}
