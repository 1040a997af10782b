use Rattle.body_needs.proofs.bodies.put_value.Goals as goal

pub returns-in-Expr : goal.returns-in-Expr
returns-in-Expr c = rw c.in-Expr.is c.put_expr.ensures
