use Rattle.std.proofs.lemmas.Result.{on_ok_weaker}
use Rattle.cat_items.specs.contracts.item.ItemPartialEq.TheImpl as same
use Rattle.edit_suspects.proofs.Finding.{added_found}
use Rattle.edit_suspects.proofs.seeds.find_added.Goals as goal

pub returns-clause-found : goal.returns-clause-found
returns-clause-found g c =
    on_ok_weaker c.find_homes.result
    (added_found same.ghosts.eq c.args.board.now c.args.x.now c.args.numbers.now.items c.find_own.new.numbers.items c.find_ghost.new.numbers.items c.find_homes.new.numbers.items c.in_ok-find_own.ensures.found c.in_ok-find_ghost.ensures.found)
    c.find_homes.ensures.found
