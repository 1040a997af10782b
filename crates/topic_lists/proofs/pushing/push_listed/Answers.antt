use Rattle.std.proofs.Common.{◌≡◌}
use Rattle.topic_keys.proofs.Adding.{each_begin, each_end, each_more}
use Rattle.topic_lists.proofs.Runs.{gets_listed}
use Rattle.topic_lists.proofs.pushing.push_listed.Goals as goal

pub loop-need-init : goal.loop-need-init
loop-need-init c = record { put = each_begin (λ a n. n ≡ a) c.args.listed.now c.args.needs.now.items }

pub loop-need-preserved : goal.loop-need-preserved
loop-need-preserved c = record {
  put = each_more (λ a n. n ≡ a) c.args.listed.now c.args.needs.now.items c.loop-need.needs.items c.push_need.new.needs.items c.loop-need.need-index c.need-item.result
      (rw c.as_slice-need-items.ensures at c.loop-need-test.true) (rw c.as_slice-need-items.ensures at c.need-item.is) c.loop-need.invariant.put c.in_ok-push_need.ensures;
}

pub returns : goal.returns
returns c =
    gets_listed c.args.listed.now c.args.needs.now.items c.loop-need.needs.items
    (each_end (λ a n. n ≡ a) c.args.listed.now c.args.needs.now.items c.loop-need.needs.items c.loop-need.need-index (rw c.as_slice-need-items.ensures at c.loop-need-test.false) c.loop-need.invariant.put)
