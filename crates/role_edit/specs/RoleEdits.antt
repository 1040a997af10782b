-- Statements on roles: their refusals, and their edits.
use Rattle.std.specs.Prelude.{List, []}
use Rattle.sql_tree.specs.declared.statement.Statement.{Statement}
use Rattle.sql_tree.specs.declared.statement.Statement.TheVariants.{CreateRole, GrantRoles, RevokeRoles}
use Rattle.cat_items.specs.declared.edit.Edit.{Edit}
use Rattle.cat_items.specs.declared.edit.Refusal.{Refusal}
use Rattle.cat_items.specs.declared.edit.Who.{Who}
use Rattle.cat_items.specs.declared.item.Item.{Item}
use Rattle.role_edit.specs.CreatedRoles.{create_role_refusals, IsRoleCreation}
use Rattle.role_edit.specs.GrantedRoles.{grant_roles_refusals, IsRoleGrantEdit}
use Rattle.role_edit.specs.RevokedRoles.{revoke_roles_refusals, IsRoleRevokeEdit}

-- CREATE ROLE, GRANT and REVOKE of roles
abbrev pub IsOnRoles : Statement → Type 0
IsOnRoles (CreateRole parts) = Unit {0}
IsOnRoles (GrantRoles parts) = Unit {0}
IsOnRoles (RevokeRoles parts) = Unit {0}
IsOnRoles statement = ⊥

-- the refusals by the tree, names, taken names, cycles and admin options, in their order
abbrev pub role_statement_refusals : List Item → Who → Statement → List (Refusal → Type 0)
role_statement_refusals c who (CreateRole parts) = create_role_refusals c who parts
role_statement_refusals c who (GrantRoles parts) = grant_roles_refusals c who parts
role_statement_refusals c who (RevokeRoles parts) = revoke_roles_refusals c who parts
role_statement_refusals c who statement = []

-- the edit that the statement makes
abbrev pub IsRoleEdit : List Item → Who → Statement → Edit → Type 0
IsRoleEdit c who (CreateRole parts) edit = IsRoleCreation c who parts edit
IsRoleEdit c who (GrantRoles parts) edit = IsRoleGrantEdit c who parts edit
IsRoleEdit c who (RevokeRoles parts) edit = IsRoleRevokeEdit c who parts edit
IsRoleEdit c who statement edit = ⊥
