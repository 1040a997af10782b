use Rattle.chosen_parts.proofs.Covering.{covered_more}
use Rattle.chosen_parts.proofs.stretches.places_of_each.Goals as goal

pub loop-part-preserved : goal.loop-part-preserved
loop-part-preserved c =
    rw c.in_ok-push.ensures.items
    (covered_more c.args.c.now.items c.args.parts.now c.loop-part.ranges.items c.loop-part.part-index c.part-item.result c.places.result c.loop-part-test.true c.part-item.is c.places.ensures c.loop-part.invariant)
