-- GRANT of roles (grant role statement, SQL:2003 part 2, 12.5).
use Rattle.std.specs.Prelude.{◌≡◌, Bool, true, List, [], ◌∷◌, ◌++◌, map, Option}
use Rattle.std.specs.List.{Contains}
use Rattle.sql_names.specs.NameBytes.{NameBytes}
use Rattle.sql_tree.specs.declared.rights.Grantor.{Grantor}
use Rattle.sql_tree.specs.declared.statement.GrantRoles.{GrantRoles}
use Rattle.cat_items.specs.declared.edit.Edit.{Edit}
use Rattle.cat_items.specs.declared.edit.Refusal.{Refusal}
use Rattle.cat_items.specs.declared.edit.Refusal.TheVariants.{RoleCycle}
use Rattle.cat_items.specs.declared.edit.Who.{Who}
use Rattle.cat_items.specs.declared.item.Item.{Item}
use Rattle.cat_items.specs.declared.item.Item.TheVariants.{RoleAuth, RoleAdmin}
use Rattle.cat_items.specs.declared.item.RoleGrant.{RoleGrant}
use Rattle.cat_items.specs.declared.need.Auth.TheVariants.{Named}
use Rattle.cat_items.specs.Rights.{admin}
use Rattle.role_graph.specs.Cycles.{HasCycle, IsStep}
use Rattle.edit_rules.specs.Chosen.{IsAdding}
use Rattle.edit_rules.specs.Grantors.{IsGrantor, no_current_role}
use Rattle.edit_rules.specs.Names.{unknown_authorization, unknown_role}
use Rattle.edit_rules.specs.Privileges.{no_privilege}

-- names that don't stand, in the order in which they are written
abbrev pub role_name_refusals : List Item → Who → List NameBytes → List NameBytes → Option Grantor → List (Refusal → Type 0)
role_name_refusals c who roles grantees by = map (unknown_role c) roles ++ (map (unknown_authorization c) grantees ++ no_current_role c who by ∷ [])

-- the role grants of the catalogue and of the statement have a cycle together
abbrev pub role_cycle : List Item → List NameBytes → List NameBytes → Refusal → Type 0
role_cycle c roles grantees refusal = HasCycle (IsStep c roles grantees) × (refusal ≡ RoleCycle)

-- the grantor has no admin option of one of the roles
abbrev pub no_admin_option : List Item → Who → Option Grantor → List NameBytes → Refusal → Type 0
no_admin_option c who by roles refusal = (grantor : NameBytes) × IsGrantor c who by grantor × no_privilege c grantor (map admin roles) refusal

abbrev pub grant_roles_refusals : List Item → Who → GrantRoles → List (Refusal → Type 0)
grant_roles_refusals c who parts =
    role_name_refusals c who parts.roles parts.grantees parts.grantor
    ++ role_cycle c parts.roles parts.grantees
    ∷ no_admin_option c who parts.grantor parts.roles
    ∷ []

-- by this grantor, of one of these roles to one of these grantees
pub record IsGrantBy (grantor : NameBytes) (roles grantees : List NameBytes) (g : RoleGrant) : Type 0 where
  pub by : g.grantor ≡ Named grantor
  pub role : Contains roles g.role
  pub grantee : Contains grantees g.grantee

-- a role authorization, and with the option the admin option of the same fields
abbrev pub IsGrantedRole : NameBytes → List NameBytes → List NameBytes → Bool → Item → Type 0
IsGrantedRole grantor roles grantees option (RoleAuth g) = IsGrantBy grantor roles grantees g
IsGrantedRole grantor roles grantees option (RoleAdmin g) = (option ≡ true) × IsGrantBy grantor roles grantees g
IsGrantedRole grantor roles grantees option x = ⊥

-- each of the roles is granted to each of the grantees
abbrev pub IsRoleGrantEdit : List Item → Who → GrantRoles → Edit → Type 0
IsRoleGrantEdit c who parts edit = (grantor : NameBytes) × IsGrantor c who parts.grantor grantor
    × IsAdding (IsGrantedRole grantor parts.roles parts.grantees parts.admin_option) edit
