use Rattle.item_index.proofs.Mirrors.{all_unlinked, fewer, one_unlinked, other_has, other_there}
use Rattle.item_index.proofs.unlinking.unlink.Goals as goal

pub take_out-requires-clause-list : goal.take_out-requires-clause-list
take_out-requires-clause-list c = let p = c.in-Some.ensures.some in
    other_there c.args.node c.args.ends.now c.args.back.now c.loop-other.ends c.loop-other.back p.0 c.in-Some.other c.loop-other.invariant p.1 p.2

pub take_out-requires-clause-there : goal.take_out-requires-clause-there
take_out-requires-clause-there c = let p = c.in-Some.ensures.some in
    other_has c.args.node c.args.ends.now c.args.back.now c.loop-other.ends c.loop-other.back p.0 c.in-Some.other c.loop-other.invariant p.1 p.2

pub loop-other-smaller : goal.loop-other-smaller
loop-other-smaller c = let p = c.in-Some.ensures.some in let q = c.take_out.ensures in
    fewer c.args.node c.args.ends.now c.args.back.now c.loop-other.ends c.loop-other.back p.0 c.in-Some.other c.loop-other.invariant p.1 p.2 q.0 q.1 c.pop.new.self p.3

pub loop-other-preserved : goal.loop-other-preserved
loop-other-preserved c = let p = c.in-Some.ensures.some in let q = c.take_out.ensures in
    one_unlinked c.args.node c.args.ends.now c.args.back.now c.loop-other.ends c.loop-other.back p.0 c.in-Some.other c.loop-other.invariant p.1 p.2 q.0 q.1 c.pop.new.self c.take_out.new.self p.3 q.2

pub returns-clause-back : goal.returns-clause-back
returns-clause-back c = all_unlinked c.args.node c.args.ends.now c.args.back.now c.loop-other.ends c.loop-other.back c.loop-other.invariant c.in_default.ensures.none.1
