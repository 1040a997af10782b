use Rattle.std.proofs.Common.{map}
use Rattle.sql_tree.specs.declared.rights.Privilege.{Privilege}
use Rattle.edit_rules.specs.Names.{unknown_column}
use Rattle.edit_rules.proofs.TestLists.{exit_at, pass_all, pass_next}
use Rattle.grant_edit.proofs.targets.test_lists.Goals as goal

pub returns-in_err-test_list : goal.returns-in_err-test_list
returns-in_err-test_list c =
    exit_at (λ (p : Privilege). map (unknown_column c.args.c.now.items c.args.object.now) p.columns) c.args.listed.now c.as_slice-privilege-items.result.now c.loop-privilege.privilege-index c.as_slice-privilege-items.ensures (Unit {0}) (Unit {0}) c.privilege-item.result c.in_err-test_list.field-0.0
    c.from_residual.result c.from_residual.ensures.1 c.loop-privilege-test.true c.privilege-item.is c.loop-privilege.invariant c.in_err-test_list.ensures

pub loop-privilege-preserved : goal.loop-privilege-preserved
loop-privilege-preserved c =
    pass_next (λ (p : Privilege). map (unknown_column c.args.c.now.items c.args.object.now) p.columns) c.args.listed.now c.as_slice-privilege-items.result.now c.loop-privilege.privilege-index c.as_slice-privilege-items.ensures c.privilege-item.result c.loop-privilege-test.true c.privilege-item.is c.loop-privilege.invariant c.in_ok-test_list.ensures.0

pub returns : goal.returns
returns c = (pass_all (λ (p : Privilege). map (unknown_column c.args.c.now.items c.args.object.now) p.columns) c.args.listed.now c.as_slice-privilege-items.result.now c.loop-privilege.privilege-index c.as_slice-privilege-items.ensures c.loop-privilege-test.false c.loop-privilege.invariant, tt)
