use Rattle.std.proofs.Common.{refl, arith}
use Rattle.role_graph.proofs.TrailLemmas.{left_begins, left_goes, left_ends, flag_read}
use Rattle.role_graph.proofs.trail.clear.Goals as goal

pub loop-at-init : goal.loop-at-init
loop-at-init c = left_begins c.args.first c.args.seen.now c.args.found.now c.requires

pub overflow_sub-seen : goal.overflow_sub-seen
overflow_sub-seen c = (flag_read c.args.first c.args.seen.now c.args.found.now c.loop-at.at-index c.requires (omega arith)).0

pub bounds-seen-at : goal.bounds-seen-at
bounds-seen-at c =
    let flag = flag_read c.args.first c.args.seen.now c.args.found.now c.loop-at.at-index c.requires (omega arith) in
    omega (arith, flag.0, flag.1, c.loop-at.invariant.size)

pub loop-at-preserved : goal.loop-at-preserved
loop-at-preserved c = left_goes c.args.first c.args.seen.now c.loop-at.seen c.args.found.now c.loop-at.at-index _ c.requires c.loop-at.invariant (omega arith) refl

pub returns : goal.returns
returns c = left_ends c.args.first c.args.seen.now c.loop-at.seen c.args.found.now c.loop-at.at-index (omega arith) c.loop-at.invariant
