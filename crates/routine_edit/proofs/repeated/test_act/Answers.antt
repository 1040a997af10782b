use Rattle.routine_edit.proofs.repeated.test_act.Goals as goal

pub returns-in-Update : goal.returns-in-Update
returns-in-Update c = rw c.in-Update.is (rw c.as_slice.ensures at c.test_set.ensures)
