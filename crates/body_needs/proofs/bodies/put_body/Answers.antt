use Rattle.body_needs.proofs.bodies.put_body.Goals as goal

pub returns-in-Return : goal.returns-in-Return
returns-in-Return c = rw c.in-Return.is c.put_expr.ensures

pub returns-in-Atomic : goal.returns-in-Atomic
returns-in-Atomic c = rw c.in-Atomic.is (rw c.as_slice.ensures at c.put_acts.ensures)
