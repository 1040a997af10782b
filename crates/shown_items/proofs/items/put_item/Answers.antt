use Rattle.shown_items.proofs.items.put_item.Goals as goal

pub returns-in-User-clause-rows : goal.returns-in-User-clause-rows
returns-in-User-clause-rows c = rw c.in-User.is c.put_name.ensures

pub returns-in-Role-clause-rows : goal.returns-in-Role-clause-rows
returns-in-Role-clause-rows c = rw c.in-Role.is c.put_name-in-Role.ensures

pub returns-in-Schema-clause-rows : goal.returns-in-Schema-clause-rows
returns-in-Schema-clause-rows c = rw (c.in-Schema.is, ← c.get-x.ensures) c.put_owned.ensures

pub returns-in-Table-clause-rows : goal.returns-in-Table-clause-rows
returns-in-Table-clause-rows c = rw (c.in-Table.is, ← c.get.ensures) c.put_table.ensures

pub returns-in-View-clause-rows : goal.returns-in-View-clause-rows
returns-in-View-clause-rows c = rw (c.in-View.is, ← c.get-in-View.ensures) c.put_view.ensures

pub returns-in-Column-clause-rows : goal.returns-in-Column-clause-rows
returns-in-Column-clause-rows c = rw (c.in-Column.is, ← c.get-in-Column.ensures) c.put_column.ensures

pub returns-in-Domain-clause-rows : goal.returns-in-Domain-clause-rows
returns-in-Domain-clause-rows c = rw (c.in-Domain.is, ← c.get-in-Domain.ensures) c.put_domain.ensures

pub returns-in-DomainCheck-clause-rows : goal.returns-in-DomainCheck-clause-rows
returns-in-DomainCheck-clause-rows c = rw (c.in-DomainCheck.is, ← c.get-x-in-DomainCheck.ensures) c.put_owned-in-DomainCheck.ensures

pub returns-in-Key-clause-rows : goal.returns-in-Key-clause-rows
returns-in-Key-clause-rows c = rw (c.in-Key.is, ← c.get-x-in-Key.ensures) c.put_owned-in-Key.ensures

pub returns-in-Foreign-clause-rows : goal.returns-in-Foreign-clause-rows
returns-in-Foreign-clause-rows c = rw (c.in-Foreign.is, ← c.get-x-in-Foreign.ensures) c.put_owned-in-Foreign.ensures

pub returns-in-Check-clause-rows : goal.returns-in-Check-clause-rows
returns-in-Check-clause-rows c = rw (c.in-Check.is, ← c.get-x-in-Check.ensures) c.put_owned-in-Check.ensures

pub returns-in-Assertion-clause-rows : goal.returns-in-Assertion-clause-rows
returns-in-Assertion-clause-rows c = rw (c.in-Assertion.is, ← c.get-x-in-Assertion.ensures) c.put_owned-in-Assertion.ensures

pub returns-in-Routine-clause-rows : goal.returns-in-Routine-clause-rows
returns-in-Routine-clause-rows c = rw (c.in-Routine.is, ← c.get-in-Routine.ensures) c.put_routine.ensures

pub returns-in-RoleAuth-clause-rows : goal.returns-in-RoleAuth-clause-rows
returns-in-RoleAuth-clause-rows c = rw (c.in-RoleAuth.is, ← c.get-in-RoleAuth.ensures) c.put_role_grant.ensures.rows

pub returns-in-Held-clause-rows : goal.returns-in-Held-clause-rows
returns-in-Held-clause-rows c = rw (c.in-Held.is, ← c.get-in-Held.ensures) c.put_right.ensures
