use Rattle.std.proofs.Common.{refl}
use Rattle.edit_rules.proofs.TestLists.{exit_at, pass_all, pass_next}
use Rattle.routine_edit.specs.CreatedRoutines.{repeated_in_act}
use Rattle.routine_edit.proofs.repeated.test_acts.Goals as goal

pub returns-in_err-test_act : goal.returns-in_err-test_act
returns-in_err-test_act c =
    exit_at repeated_in_act c.args.all.now c.args.all.now c.loop-one.one-index refl (Unit {0}) (Unit {0}) c.one-item.result c.in_err-test_act.field-0.0
    c.from_residual.result c.from_residual.ensures.1 c.loop-one-test.true c.one-item.is c.loop-one.invariant c.in_err-test_act.ensures

pub loop-one-preserved : goal.loop-one-preserved
loop-one-preserved c = pass_next repeated_in_act c.args.all.now c.args.all.now c.loop-one.one-index refl c.one-item.result c.loop-one-test.true c.one-item.is c.loop-one.invariant c.in_ok-test_act.ensures.0

pub returns : goal.returns
returns c = (pass_all repeated_in_act c.args.all.now c.args.all.now c.loop-one.one-index refl c.loop-one-test.false c.loop-one.invariant, tt)
