use Rattle.edit_rules.specs.Names.{unknown_column}
use Rattle.edit_rules.proofs.TestLists.{each_exit_at, each_next, each_pass_all}
use Rattle.grant_edit.proofs.targets.test_list.Goals as goal

pub returns-in_err-test_column : goal.returns-in_err-test_column
returns-in_err-test_column c =
    each_exit_at (unknown_column c.args.c.now.items c.args.object.now) c.args.names.now c.as_slice-name-items.result.now c.loop-name.name-index c.as_slice-name-items.ensures (Unit {0}) (Unit {0}) c.name-item.result c.in_err-test_column.field-0.0
    c.from_residual.result c.from_residual.ensures.1 c.loop-name-test.true c.name-item.is c.loop-name.invariant c.in_err-test_column.ensures

pub loop-name-preserved : goal.loop-name-preserved
loop-name-preserved c =
    each_next (unknown_column c.args.c.now.items c.args.object.now) c.args.names.now c.as_slice-name-items.result.now c.loop-name.name-index c.as_slice-name-items.ensures c.name-item.result c.loop-name-test.true c.name-item.is c.loop-name.invariant c.in_ok-test_column.ensures.0

pub returns : goal.returns
returns c = (each_pass_all (unknown_column c.args.c.now.items c.args.object.now) c.args.names.now c.as_slice-name-items.result.now c.loop-name.name-index c.as_slice-name-items.ensures c.loop-name-test.false c.loop-name.invariant, tt)
