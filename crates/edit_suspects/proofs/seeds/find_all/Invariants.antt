use Rattle.std.proofs.Common.{◌≤◌, ◌+◌}
use Rattle.cat_items.specs.contracts.item.ItemPartialEq.TheImpl as same
use Rattle.topic_keys.specs.Lists.{Gets}
use Rattle.topic_keys.proofs.Adding.{IsOfFirst}
use Rattle.edit_suspects.specs.Seeds.{IsNumber}
use Rattle.edit_suspects.proofs.seeds.find_all.Given as goal

abbrev pub invariant-loop-key : goal.invariant-loop-key
invariant-loop-key g l = record {
  found : Gets (IsOfFirst (IsNumber same.ghosts.eq l.board) l.keys l.key-index) l.initial.numbers.items l.numbers.items;
  ticks : l.steps ≤ l.initial.steps + l.key-index;
}
