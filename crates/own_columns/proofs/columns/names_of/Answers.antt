use Rattle.std.proofs.Common.{◌+◌, drop, subst}
use Rattle.tree_needs.proofs.NeedMembers.{drop_end, drop_next}
use Rattle.own_columns.proofs.OwnNames.{Leads, leads_end, leads_on}
use Rattle.own_columns.proofs.columns.names_of.Goals as goal

pub loop-reference-preserved : goal.loop-reference-preserved
loop-reference-preserved c = record {
  order = c.in_ok-put_own.ensures.order;
  members = leads_on c.args.table.now c.loop-reference.names.items c.put_own.new.names.items c.reference-item.result (drop (c.loop-reference.reference-index + 1) c.args.all.now) c.args.all.now c.in_ok-put_own.ensures.members
      (subst (λ l. Leads c.args.table.now c.loop-reference.names.items l c.args.all.now) (drop_next c.args.all.now c.loop-reference.reference-index c.reference-item.result c.loop-reference-test.true c.reference-item.is) c.loop-reference.invariant.members);
}

pub returns : goal.returns
returns c = rw c.from_vec.ensures (record {
  order = c.loop-reference.invariant.order;
  members = leads_end c.args.table.now c.loop-reference.names.items c.args.all.now (subst (λ l. Leads c.args.table.now c.loop-reference.names.items l c.args.all.now) (drop_end c.args.all.now c.loop-reference.reference-index c.loop-reference-test.false) c.loop-reference.invariant.members);
})
