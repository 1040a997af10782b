use Rattle.std.proofs.Common.{◌≤◌, ◌+◌, ◌*◌}
use Rattle.cat_items.specs.contracts.item.ItemPartialEq.TheImpl as same
use Rattle.topic_keys.specs.Lists.{Gets}
use Rattle.topic_keys.proofs.Adding.{IsOfFirst}
use Rattle.edit_suspects.specs.Seeds.{IsAddedKey, IsNumberOf}
use Rattle.edit_suspects.proofs.seeds.find_all_added.Given as goal

abbrev pub invariant-loop-x : goal.invariant-loop-x
invariant-loop-x g l = record {
  found : Gets (IsOfFirst (λ x. IsNumberOf same.ghosts.eq l.board (IsAddedKey x)) l.added l.x-index) l.initial.numbers.items l.numbers.items;
  ticks : l.steps ≤ l.initial.steps + 4 * l.x-index;
}
