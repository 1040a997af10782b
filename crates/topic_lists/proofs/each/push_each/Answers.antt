use Rattle.std.proofs.Common.{arith}
use Rattle.cat_items.specs.Ranges.{IsIn}
use Rattle.topic_lists.proofs.Runs.{places_begin, places_end, places_more}
use Rattle.topic_lists.proofs.each.push_each.Goals as goal

pub loop-at-init : goal.loop-at-init
loop-at-init g c = record { put = places_begin c.args.c.now.items (g.T.Carries.carries c.args.by.now) _ c.args.needs.now.items }

pub loop-at-preserved : goal.loop-at-preserved
loop-at-preserved g c = record {
  put = places_more c.args.c.now.items (g.T.Carries.carries c.args.by.now) c.args.needs.now.items c.loop-at.needs.items c.push_from.new.needs.items _ c.loop-at.at c.index-items-at.result
      (omega arith) (omega (arith, c.loop-at-test.true, c.places-all.ensures.within)) (rw c.items-items.ensures.items at c.index-items-at.is) c.loop-at.invariant.put c.in_ok-push_from.ensures;
}

pub returns : goal.returns
returns g c =
    places_end c.args.c.now.items (g.T.Carries.carries c.args.by.now) c.args.needs.now.items c.loop-at.needs.items (IsIn c.args.part) _ _ c.loop-at.at c.places-all.ensures (omega (arith, c.places-all.ensures.ordered)) c.loop-at.invariant.put
