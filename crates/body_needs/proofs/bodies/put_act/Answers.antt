use Rattle.body_needs.proofs.bodies.put_act.Goals as goal

pub returns-in-Insert : goal.returns-in-Insert
returns-in-Insert c = rw c.in-Insert.is (rw c.as_slice.ensures at c.put_inserted.ensures)

pub returns-in-Update : goal.returns-in-Update
returns-in-Update c = rw c.in-Update.is (rw c.as_slice-in-Update.ensures at c.put_updated.ensures)

pub returns-in-Delete : goal.returns-in-Delete
returns-in-Delete c = rw c.in-Delete.is c.put_deleted.ensures

pub returns-in-Call : goal.returns-in-Call
returns-in-Call c = rw c.in-Call.is (rw c.as_slice-in-Call.ensures at c.put_called.ensures)
