use Rattle.std.proofs.Common.{ap, arith, length}
use Rattle.std.proofs.lemmas.Result.{on_ok_weaker}
use Rattle.cat_items.specs.contracts.item.ItemPartialEq.TheImpl as same
use Rattle.edit_suspects.proofs.Finding.{at_most_two, homes_found}
use Rattle.edit_suspects.proofs.seeds.find_homes.Goals as goal

pub returns-clause-found : goal.returns-clause-found
returns-clause-found g c =
    on_ok_weaker c.find_all.result
    (homes_found same.ghosts.eq c.args.board.now c.args.x.now c.as_slice.result.now c.in_ok-topics.topics c.args.numbers.now.items c.find_all.new.numbers.items c.as_slice.ensures c.in_ok-topics.ensures)
    c.find_all.ensures.found

pub returns-clause-ticks : goal.returns-clause-ticks
returns-clause-ticks g c = omega (arith, c.find_all.ensures.ticks, ap length c.as_slice.ensures, at_most_two c.args.x.now c.in_ok-topics.topics c.in_ok-topics.ensures)
