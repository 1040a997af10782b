use Rattle.std.proofs.Common.{arith}
use Rattle.cat_items.specs.contracts.item.ItemPartialEq.TheImpl as same
use Rattle.cat_items.specs.contracts.item.ItemEq.TheImpl.Laws as laws
use Rattle.board_plans.proofs.Pushing.{none_pushed, pushed_to}
use Rattle.board_plans.proofs.ends.push_depends.Goals as goal

pub loop-other-init : goal.loop-other-init
loop-other-init g c = record {
  pushed = none_pushed same.ghosts.eq laws.laws-law c.args.board.now c.args.out.now.keys c.args.keys.now.keys c.args.ends.now.items;
  all = c.as_slice-other-items.ensures;
  few = omega arith;
}

pub loop-other-preserved : goal.loop-other-preserved
loop-other-preserved g c =
    let others = c.as_slice-other-items.result.now in
    record {
      pushed = pushed_to same.ghosts.eq laws.laws-law c.args.board.now c.args.out.now.keys c.args.keys.now.keys c.loop-other.keys.keys c.end_of.new.keys.keys c.args.arrival.now.key c.args.own c.requires others
          c.loop-other.other-index c.loop-other-test.true c.other-item.result c.other-item.is c.in_ok-to.to c.in_ok-to.ensures.end c.args.ends.now.items c.loop-other.ends.items c.push.new.self.items
          c.loop-other.invariant.pushed c.in_ok-push.ensures.items;
      all = c.loop-other.invariant.all;
      few = omega arith;
    }
