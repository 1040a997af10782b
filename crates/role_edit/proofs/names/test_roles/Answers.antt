use Rattle.edit_rules.specs.Names.{unknown_role}
use Rattle.edit_rules.proofs.TestLists.{each_exit_at, each_next}
use Rattle.role_edit.proofs.names.test_roles.Goals as goal

pub returns-in_err-test_role : goal.returns-in_err-test_role
returns-in_err-test_role c =
    each_exit_at (unknown_role c.args.c.now.items) c.args.roles.now c.as_slice-role-items.result.now c.loop-role.role-index c.as_slice-role-items.ensures (Unit {0}) (Unit {0}) c.role-item.result c.in_err-test_role.field-0.0
    c.from_residual.result c.from_residual.ensures.1 c.loop-role-test.true c.role-item.is c.loop-role.invariant c.in_err-test_role.ensures

pub loop-role-preserved : goal.loop-role-preserved
loop-role-preserved c = each_next (unknown_role c.args.c.now.items) c.args.roles.now c.as_slice-role-items.result.now c.loop-role.role-index c.as_slice-role-items.ensures c.role-item.result c.loop-role-test.true c.role-item.is c.loop-role.invariant c.in_ok-test_role.ensures.0
