use Rattle.std.proofs.Common.{◌+◌, drop, subst}
use Rattle.cat_items.specs.Needs as spec
use Rattle.tree_needs.proofs.NeedMembers.{drop_next, drop_end}
use Rattle.body_needs.proofs.Gained.{Leads, leads_begin, leads_on, leads_end}
use Rattle.body_needs.proofs.bodies.put_values.Goals as goal

pub loop-one-init : goal.loop-one-init
loop-one-init c = leads_begin spec.value_needs c.args.needs.now c.args.all.now

pub loop-one-preserved : goal.loop-one-preserved
loop-one-preserved c =
    leads_on spec.value_needs c.args.needs.now c.loop-one.needs c.put_value.new.needs c.one-item.result (drop (c.loop-one.one-index + 1) c.args.all.now) c.args.all.now c.in_ok-put_value.ensures
    (subst (λ l. Leads spec.value_needs c.args.needs.now c.loop-one.needs l c.args.all.now) (drop_next c.args.all.now c.loop-one.one-index c.one-item.result c.loop-one-test.true c.one-item.is) c.loop-one.invariant)

pub returns : goal.returns
returns c =
    leads_end spec.value_needs c.args.needs.now c.loop-one.needs c.args.all.now (subst (λ l. Leads spec.value_needs c.args.needs.now c.loop-one.needs l c.args.all.now) (drop_end c.args.all.now c.loop-one.one-index c.loop-one-test.false) c.loop-one.invariant)
