use Rattle.std.proofs.Common.{◌≡◌, ◌≤◌, ◌+◌, map, take}
use Rattle.cat_items.specs.contracts.item.ItemPartialEq.TheImpl as same
use Rattle.board_plans.specs.Ends.{ArePushed}
use Rattle.board_plans.proofs.ends.push_depends.Given as goal

abbrev pub invariant-loop-other : goal.invariant-loop-other
invariant-loop-other g l = record {
  pushed : ArePushed same.ghosts.eq l.board l.out.keys l.initial.keys.keys l.keys.keys (map (λ other. (l.arrival.key, other)) (take l.other-index l.other-items)) l.initial.ends.items l.ends.items;
  all : l.other-items ≡ l.arrival.depends_on;
  few : l.steps ≤ l.initial.steps + l.other-index;
}
