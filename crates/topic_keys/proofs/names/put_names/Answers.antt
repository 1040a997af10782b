use Rattle.topic_keys.proofs.names.put_names.Goals as goal

pub returns-in-Schema : goal.returns-in-Schema
returns-in-Schema c = rw (c.in-Schema.is, ← c.get.ensures) c.put_topic.ensures

pub returns-in-Table : goal.returns-in-Table
returns-in-Table c = rw (c.in-Table.is, ← c.get-in-Table.ensures) c.put_table_names.ensures

pub returns-in-View : goal.returns-in-View
returns-in-View c = rw (c.in-View.is, ← c.get-in-View.ensures) c.put_topic-in-View.ensures

pub returns-in-Column : goal.returns-in-Column
returns-in-Column c = rw (c.in-Column.is, ← c.get-in-Column.ensures) c.put_column_names.ensures

pub returns-in-Domain : goal.returns-in-Domain
returns-in-Domain c = rw (c.in-Domain.is, ← c.get-in-Domain.ensures) c.put_topic-in-Domain.ensures

pub returns-in-DomainCheck : goal.returns-in-DomainCheck
returns-in-DomainCheck c = rw (c.in-DomainCheck.is, ← c.get-in-DomainCheck.ensures) c.put_domain_check.ensures

pub returns-in-Key : goal.returns-in-Key
returns-in-Key c = rw (c.in-Key.is, ← c.get-key.ensures) c.put_constraint.ensures

pub returns-in-Foreign : goal.returns-in-Foreign
returns-in-Foreign c = rw (c.in-Foreign.is, ← c.get-in-Foreign.ensures) c.put_foreign.ensures

pub returns-in-Check : goal.returns-in-Check
returns-in-Check c = rw (c.in-Check.is, ← c.get-check.ensures) c.put_constraint-in-Check.ensures

pub returns-in-Assertion : goal.returns-in-Assertion
returns-in-Assertion c = rw (c.in-Assertion.is, ← c.get-in-Assertion.ensures) c.put_topic-in-Assertion.ensures

pub returns-in-Routine : goal.returns-in-Routine
returns-in-Routine c = rw (c.in-Routine.is, ← c.get-in-Routine.ensures) c.put_topic-in-Routine.ensures

pub returns-in-RoleAuth : goal.returns-in-RoleAuth
returns-in-RoleAuth c = rw (c.in-RoleAuth.is, ← c.get-in-RoleAuth.ensures) c.put_role_grant.ensures

pub returns-in-RoleAdmin : goal.returns-in-RoleAdmin
returns-in-RoleAdmin c = rw (c.in-RoleAdmin.is, ← c.get-in-RoleAdmin.ensures) c.put_role_grant-in-RoleAdmin.ensures

pub returns-in-Held : goal.returns-in-Held
returns-in-Held c = rw (c.in-Held.is, ← c.get-in-Held.ensures) c.put_right.ensures

pub returns-in-Grantable : goal.returns-in-Grantable
returns-in-Grantable c = rw (c.in-Grantable.is, ← c.get-in-Grantable.ensures) c.put_right-in-Grantable.ensures
