use Rattle.topic_keys.proofs.under.put_homes.Goals as goal

pub returns-in-User : goal.returns-in-User
returns-in-User c = rw c.in-User.is c.put_topic.ensures

pub returns-in-Role : goal.returns-in-Role
returns-in-Role c = rw c.in-Role.is c.put_role.ensures

pub returns-in-Schema : goal.returns-in-Schema
returns-in-Schema c = rw (c.in-Schema.is, ← c.get.ensures) c.put_topic-in-Schema.ensures

pub returns-in-Table : goal.returns-in-Table
returns-in-Table c = rw (c.in-Table.is, ← c.get-in-Table.ensures) c.put_base_table.ensures

pub returns-in-View : goal.returns-in-View
returns-in-View c = rw (c.in-View.is, ← c.get-in-View.ensures) c.put_table.ensures

pub returns-in-Column : goal.returns-in-Column
returns-in-Column c = rw (c.in-Column.is, ← c.get-in-Column.ensures) c.put_column_of.ensures

pub returns-in-Domain : goal.returns-in-Domain
returns-in-Domain c = rw (c.in-Domain.is, ← c.get-in-Domain.ensures) c.put_domain.ensures

pub returns-in-Key : goal.returns-in-Key
returns-in-Key c = rw (c.in-Key.is, ← c.get-in-Key.ensures) c.put_topic-in-Key.ensures

pub returns-in-Routine : goal.returns-in-Routine
returns-in-Routine c = rw (c.in-Routine.is, ← c.get-in-Routine.ensures) c.put_routine.ensures

pub returns-in-RoleAuth : goal.returns-in-RoleAuth
returns-in-RoleAuth c = rw (c.in-RoleAuth.is, ← c.get-in-RoleAuth.ensures) c.put_topic-in-RoleAuth.ensures

pub returns-in-RoleAdmin : goal.returns-in-RoleAdmin
returns-in-RoleAdmin c = rw (c.in-RoleAdmin.is, ← c.get-grant.ensures) c.put_topic-in-RoleAdmin.ensures

pub returns-in-Held : goal.returns-in-Held
returns-in-Held c = rw (c.in-Held.is, ← c.get-in-Held.ensures) c.put_right.ensures

pub returns-in-Grantable : goal.returns-in-Grantable
returns-in-Grantable c = rw (c.in-Grantable.is, ← c.get-in-Grantable.ensures) c.put_right-in-Grantable.ensures
