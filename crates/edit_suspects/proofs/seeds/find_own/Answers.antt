use Rattle.std.proofs.Common.{sym}
use Rattle.std.proofs.lemmas.Result.{on_ok_weaker}
use Rattle.cat_items.specs.contracts.item.ItemPartialEq.TheImpl as same
use Rattle.edit_suspects.proofs.Finding.{own_found}
use Rattle.edit_suspects.proofs.seeds.find_own.Goals as goal

pub returns-clause-found : goal.returns-clause-found
returns-clause-found g c =
    on_ok_weaker c.find.result (own_found same.ghosts.eq c.args.board.now c.args.numbers.now.items c.find.new.numbers.items c.args.x.now (sym c.if-is_helper.ensures.value)) c.find.ensures.found
