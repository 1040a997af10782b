use Rattle.edit_rules.proofs.TestLists.{each_exit_at, each_next, each_pass_all}
use Rattle.grant_edit.specs.Targets.{unknown_grantee}
use Rattle.grant_edit.proofs.targets.test_grantees.Goals as goal

pub returns-in_err-test_grantee : goal.returns-in_err-test_grantee
returns-in_err-test_grantee c =
    each_exit_at (unknown_grantee c.args.c.now.items) c.args.grantees.now c.as_slice-grantee-items.result.now c.loop-grantee.grantee-index c.as_slice-grantee-items.ensures (Unit {0}) (Unit {0}) c.grantee-item.result c.in_err-test_grantee.field-0.0
    c.from_residual.result c.from_residual.ensures.1 c.loop-grantee-test.true c.grantee-item.is c.loop-grantee.invariant c.in_err-test_grantee.ensures

pub loop-grantee-preserved : goal.loop-grantee-preserved
loop-grantee-preserved c =
    each_next (unknown_grantee c.args.c.now.items) c.args.grantees.now c.as_slice-grantee-items.result.now c.loop-grantee.grantee-index c.as_slice-grantee-items.ensures c.grantee-item.result c.loop-grantee-test.true c.grantee-item.is c.loop-grantee.invariant c.in_ok-test_grantee.ensures.0

pub returns : goal.returns
returns c = (each_pass_all (unknown_grantee c.args.c.now.items) c.args.grantees.now c.as_slice-grantee-items.result.now c.loop-grantee.grantee-index c.as_slice-grantee-items.ensures c.loop-grantee-test.false c.loop-grantee.invariant, tt)
