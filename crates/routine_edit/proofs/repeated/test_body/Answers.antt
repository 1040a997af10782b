use Rattle.routine_edit.proofs.repeated.test_body.Goals as goal

pub returns-in-Atomic : goal.returns-in-Atomic
returns-in-Atomic c = rw c.in-Atomic.is (rw c.as_slice.ensures at c.test_acts.ensures)
