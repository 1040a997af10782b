use Rattle.std.proofs.Common.{◌≡◌}
use Rattle.cat_items.specs.Rights.{reference}
use Rattle.topic_keys.proofs.Adding.{each_begin, each_end, each_more}
use Rattle.topic_lists.proofs.pushing.push_references.Goals as goal

pub loop-name-init : goal.loop-name-init
loop-name-init c = record { put = each_begin (λ name n. n ≡ reference c.args.target.now name) c.args.names.now c.args.needs.now.items }

pub loop-name-preserved : goal.loop-name-preserved
loop-name-preserved c = record {
  put = each_more (λ name n. n ≡ reference c.args.target.now name) c.args.names.now c.args.needs.now.items c.loop-name.needs.items c.push_need_on.new.needs.items c.loop-name.name-index c.name-item.result
      (rw c.as_slice-name-items.ensures at c.loop-name-test.true) (rw c.as_slice-name-items.ensures at c.name-item.is) c.loop-name.invariant.put c.in_ok-push_need_on.ensures;
}

pub returns : goal.returns
returns c =
    each_end (λ name n. n ≡ reference c.args.target.now name) c.args.names.now c.args.needs.now.items c.loop-name.needs.items c.loop-name.name-index (rw c.as_slice-name-items.ensures at c.loop-name-test.false) c.loop-name.invariant.put
