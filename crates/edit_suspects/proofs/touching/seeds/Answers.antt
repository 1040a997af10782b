use Rattle.cat_items.specs.contracts.item.ItemPartialEq.TheImpl as same
use Rattle.edit_suspects.proofs.Finding.{seeds_lent}
use Rattle.edit_suspects.proofs.touching.seeds.Goals as goal

pub returns-clause-found : goal.returns-clause-found
returns-clause-found g c =
    seeds_lent same.ghosts.eq c.args.board.now c.args.edit.now c.new-numbers.result.items c.find_all.new.numbers.items c.find_all-2.new.numbers.items c.find_all_added.new.numbers.items c.as_slice.result.now c.as_slice-2.result.now c.as_slice-3.result.now
    c.new-numbers.ensures.items c.as_slice.ensures c.as_slice-2.ensures c.as_slice-3.ensures c.in_ok-find_all.ensures.found c.in_ok-find_all-2.ensures.found c.in_ok-find_all_added.ensures.found
