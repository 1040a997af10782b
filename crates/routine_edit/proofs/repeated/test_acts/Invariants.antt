use Rattle.edit_rules.proofs.TestLists.{PassBelow}
use Rattle.routine_edit.specs.CreatedRoutines.{repeated_in_act}
use Rattle.routine_edit.proofs.repeated.test_acts.Given as goal

abbrev pub invariant-loop-one : goal.invariant-loop-one
invariant-loop-one l = PassBelow repeated_in_act l.all l.one-index
