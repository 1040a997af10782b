use Rattle.edit_rules.proofs.TestLists.{each_exit_at, each_next, each_pass_all}
use Rattle.table_names.specs.Refusals.{exists_in}
use Rattle.table_names.proofs.refusals.test_new_constraints.Goals as goal

pub returns-in_err-test_constraint : goal.returns-in_err-test_constraint
returns-in_err-test_constraint c =
    each_exit_at (exists_in c.args.c.now.items c.args.schema.now) c.args.names.now c.as_slice-name-items.result.now c.loop-name.name-index c.as_slice-name-items.ensures (Unit {0}) (Unit {0}) c.name-item.result c.in_err-test_constraint.field-0.0
    c.from_residual.result c.from_residual.ensures.1 c.loop-name-test.true c.name-item.is c.loop-name.invariant.before c.in_err-test_constraint.ensures

pub loop-name-preserved : goal.loop-name-preserved
loop-name-preserved c = record {
  before = each_next (exists_in c.args.c.now.items c.args.schema.now) c.args.names.now c.as_slice-name-items.result.now c.loop-name.name-index c.as_slice-name-items.ensures c.name-item.result c.loop-name-test.true c.name-item.is c.loop-name.invariant.before c.in_ok-test_constraint.ensures.0;
}

pub returns : goal.returns
returns c = (each_pass_all (exists_in c.args.c.now.items c.args.schema.now) c.args.names.now c.as_slice-name-items.result.now c.loop-name.name-index c.as_slice-name-items.ensures c.loop-name-test.false c.loop-name.invariant.before, tt)
