use Rattle.std.proofs.Common.{◌+◌, drop, subst}
use Rattle.tree_needs.proofs.NeedMembers.{Leads, leads_on, leads_end, drop_next, drop_end}
use Rattle.tree_needs.proofs.needs.needs_of_mentions.Goals as goal

pub loop-one-preserved : goal.loop-one-preserved
loop-one-preserved c = record {
  order = c.in_ok-put_mention.ensures.order;
  members = leads_on c.args.reading c.loop-one.needs.items c.put_mention.new.needs.items c.one-item.result (drop (c.loop-one.one-index + 1) c.args.all.now) c.args.all.now c.in_ok-put_mention.ensures.members
      (subst (λ l. Leads c.args.reading c.loop-one.needs.items l c.args.all.now) (drop_next c.args.all.now c.loop-one.one-index c.one-item.result c.loop-one-test.true c.one-item.is) c.loop-one.invariant.members);
}

pub returns : goal.returns
returns c = rw c.from_vec.ensures (record {
  order = c.loop-one.invariant.order;
  members = leads_end c.args.reading c.loop-one.needs.items c.args.all.now (subst (λ l. Leads c.args.reading c.loop-one.needs.items l c.args.all.now) (drop_end c.args.all.now c.loop-one.one-index c.loop-one-test.false) c.loop-one.invariant.members);
})
