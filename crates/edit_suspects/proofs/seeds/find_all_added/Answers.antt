use Rattle.std.proofs.Common.{arith}
use Rattle.cat_items.specs.contracts.item.ItemPartialEq.TheImpl as same
use Rattle.topic_keys.proofs.Adding.{each_begin, each_end, each_more}
use Rattle.edit_suspects.specs.Seeds.{IsAddedKey, IsNumberOf}
use Rattle.edit_suspects.proofs.Finding.{all_added}
use Rattle.edit_suspects.proofs.seeds.find_all_added.Goals as goal

pub loop-x-init : goal.loop-x-init
loop-x-init g c = record { found = each_begin (λ x. IsNumberOf same.ghosts.eq c.args.board.now (IsAddedKey x)) c.args.added.now c.args.numbers.now.items; ticks = omega (arith) }

pub returns-in_err-find_added-clause-ticks : goal.returns-in_err-find_added-clause-ticks
returns-in_err-find_added-clause-ticks g c = omega (arith, c.loop-x.invariant.ticks, c.find_added.ensures.ticks, c.loop-x-test.true)

pub loop-x-preserved : goal.loop-x-preserved
loop-x-preserved g c = record {
  found = each_more (λ x. IsNumberOf same.ghosts.eq c.args.board.now (IsAddedKey x)) c.args.added.now c.args.numbers.now.items c.loop-x.numbers.items c.find_added.new.numbers.items c.loop-x.x-index c.x-item.result
      c.loop-x-test.true c.x-item.is c.loop-x.invariant.found c.in_ok-find_added.ensures.found;
  ticks = omega (arith, c.loop-x.invariant.ticks, c.find_added.ensures.ticks);
}

pub returns-clause-found : goal.returns-clause-found
returns-clause-found g c =
    all_added same.ghosts.eq c.args.board.now c.args.added.now c.args.numbers.now.items c.loop-x.numbers.items
    (each_end (λ x. IsNumberOf same.ghosts.eq c.args.board.now (IsAddedKey x)) c.args.added.now c.args.numbers.now.items c.loop-x.numbers.items c.loop-x.x-index c.loop-x-test.false c.loop-x.invariant.found)

pub returns-clause-ticks : goal.returns-clause-ticks
returns-clause-ticks g c = omega (arith, c.loop-x.invariant.ticks, c.loop-x.auto.x-index-end)
