use Rattle.topic_lists.proofs.sought.put_admin_options.Goals as goal

pub returns-in-RoleAuth : goal.returns-in-RoleAuth
returns-in-RoleAuth c = rw (c.in-RoleAuth.is, ← c.get.ensures) c.put_admins.ensures

pub returns-in-RoleAdmin : goal.returns-in-RoleAdmin
returns-in-RoleAdmin c = rw (c.in-RoleAdmin.is, ← c.get-in-RoleAdmin.ensures) c.put_admins-in-RoleAdmin.ensures
