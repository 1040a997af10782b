use Rattle.routine_deps.proofs.resolve.needs_in.Goals as goal

pub returns-in-None : goal.returns-in-None
returns-in-None c = rw c.in-None.is c.needs_with_all_calls.ensures

pub returns-in-Some : goal.returns-in-Some
returns-in-Some c = rw c.in-Some.is c.needs_of_body.ensures
