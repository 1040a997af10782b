use Rattle.std.proofs.Common.{sym, ◌∙◌}
use Rattle.std.proofs.lemmas.Result.{on_ok_weaker}
use Rattle.cat_items.specs.contracts.item.ItemPartialEq.TheImpl as same
use Rattle.edit_suspects.proofs.Finding.{ghost_found}
use Rattle.edit_suspects.proofs.seeds.find_ghost.Goals as goal

pub returns-in-Some-clause-found : goal.returns-in-Some-clause-found
returns-in-Some-clause-found g c =
    on_ok_weaker c.find.result
    (ghost_found same.ghosts.eq c.args.board.now c.args.numbers.now.items c.find.new.numbers.items c.args.x.now c.in-Some.key (sym c.in_ok-ghost_of.ensures.value ∙ c.in-Some.is)) c.find.ensures.found
