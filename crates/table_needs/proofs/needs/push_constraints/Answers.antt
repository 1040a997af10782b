use Rattle.table_needs.specs.Needs.{IsConstraintNeed}
use Rattle.table_needs.proofs.NeedLemmas.{gain_all, gain_begin, gain_more}
use Rattle.table_needs.proofs.needs.push_constraints.Goals as goal

pub loop-x-init : goal.loop-x-init
loop-x-init c = record { gains = gain_begin IsConstraintNeed c.args.made.now c.args.needs.now }

pub loop-x-preserved : goal.loop-x-preserved
loop-x-preserved c = record {
  gains = gain_more IsConstraintNeed c.args.made.now c.args.needs.now c.loop-x.needs c.push_constraint.new.needs c.loop-x.x-index c.x-item.result
      (rw c.as_slice-x-items.ensures at c.loop-x-test.true) (rw c.as_slice-x-items.ensures at c.x-item.is) c.loop-x.invariant.gains c.in_ok-push_constraint.ensures;
}

pub returns : goal.returns
returns c = gain_all IsConstraintNeed c.args.made.now c.args.needs.now c.loop-x.needs c.loop-x.x-index (rw c.as_slice-x-items.ensures at c.loop-x-test.false) c.loop-x.invariant.gains
