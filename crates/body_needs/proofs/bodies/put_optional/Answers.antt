use Rattle.body_needs.proofs.bodies.put_optional.Goals as goal

pub returns-in-Some : goal.returns-in-Some
returns-in-Some c = rw c.in-Some.is c.put_expr.ensures
