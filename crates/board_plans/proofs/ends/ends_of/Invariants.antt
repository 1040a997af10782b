use Rattle.std.proofs.Common.{◌≤◌, ◌+◌, length, take}
use Rattle.std.specs.List.{flat_map, sum_by}
use Rattle.cat_items.specs.contracts.item.ItemPartialEq.TheImpl as same
use Rattle.board_plans.specs.Arrivals.{links_by}
use Rattle.board_plans.specs.Ends.{AreEnds}
use Rattle.board_plans.proofs.ends.ends_of.Given as goal

abbrev pub invariant-loop-at : goal.invariant-loop-at
invariant-loop-at g l = record {
  ends : AreEnds same.ghosts.eq l.board l.out.keys l.initial.keys.keys l.keys.keys (flat_map links_by (take l.at l.arrivals)) l.ends.items;
  few : l.steps ≤ l.initial.steps + sum_by (λ a. length (links_by a)) (take l.at l.arrivals);
}
