use Rattle.std.proofs.Common.{arith}
use Rattle.cat_items.specs.contracts.item.ItemPartialEq.TheImpl as same
use Rattle.topic_keys.proofs.Adding.{each_begin, each_end, each_more}
use Rattle.edit_suspects.specs.Seeds.{IsNumber}
use Rattle.edit_suspects.proofs.seeds.find_all.Goals as goal

pub loop-key-init : goal.loop-key-init
loop-key-init g c = record { found = each_begin (IsNumber same.ghosts.eq c.args.board.now) c.args.keys.now c.args.numbers.now.items; ticks = omega (arith) }

pub returns-in_err-find-clause-ticks : goal.returns-in_err-find-clause-ticks
returns-in_err-find-clause-ticks g c = omega (arith, c.loop-key.invariant.ticks, c.find.ensures.ticks, c.loop-key-test.true)

pub loop-key-preserved : goal.loop-key-preserved
loop-key-preserved g c = record {
  found = each_more (IsNumber same.ghosts.eq c.args.board.now) c.args.keys.now c.args.numbers.now.items c.loop-key.numbers.items c.find.new.numbers.items c.loop-key.key-index c.key-item.result c.loop-key-test.true c.key-item.is c.loop-key.invariant.found c.in_ok-find.ensures.found;
  ticks = omega (arith, c.loop-key.invariant.ticks, c.find.ensures.ticks);
}

pub returns-clause-found : goal.returns-clause-found
returns-clause-found g c = each_end (IsNumber same.ghosts.eq c.args.board.now) c.args.keys.now c.args.numbers.now.items c.loop-key.numbers.items c.loop-key.key-index c.loop-key-test.false c.loop-key.invariant.found

pub returns-clause-ticks : goal.returns-clause-ticks
returns-clause-ticks g c = omega (arith, c.loop-key.invariant.ticks, c.loop-key.auto.key-index-end)
