use Rattle.body_needs.proofs.bodies.put_source.Goals as goal

pub returns-in-Values : goal.returns-in-Values
returns-in-Values c = rw c.in-Values.is (rw c.as_slice.ensures at c.put_values.ensures)

pub returns-in-Query : goal.returns-in-Query
returns-in-Query c = rw c.in-Query.is c.put_query.ensures
