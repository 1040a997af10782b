use Rattle.edit_rules.specs.Names.{unknown_authorization}
use Rattle.edit_rules.proofs.TestLists.{each_exit_at, each_next}
use Rattle.role_edit.proofs.names.test_grantees.Goals as goal

pub returns-in_err-test_authorization : goal.returns-in_err-test_authorization
returns-in_err-test_authorization c =
    each_exit_at (unknown_authorization c.args.c.now.items) c.args.grantees.now c.as_slice-grantee-items.result.now c.loop-grantee.grantee-index c.as_slice-grantee-items.ensures (Unit {0}) (Unit {0}) c.grantee-item.result c.in_err-test_authorization.field-0.0
    c.from_residual.result c.from_residual.ensures.1 c.loop-grantee-test.true c.grantee-item.is c.loop-grantee.invariant c.in_err-test_authorization.ensures

pub loop-grantee-preserved : goal.loop-grantee-preserved
loop-grantee-preserved c = each_next (unknown_authorization c.args.c.now.items) c.args.grantees.now c.as_slice-grantee-items.result.now c.loop-grantee.grantee-index c.as_slice-grantee-items.ensures c.grantee-item.result c.loop-grantee-test.true c.grantee-item.is c.loop-grantee.invariant c.in_ok-test_authorization.ensures.0
