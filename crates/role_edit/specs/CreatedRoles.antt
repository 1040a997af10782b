-- CREATE ROLE (role definition, SQL:2003 part 2, 12.4).
use Rattle.std.specs.Prelude.{◌≡◌, ◌⊎◌, List, [], ◌∷◌, codes}
use Rattle.sql_names.specs.NameBytes.{NameBytes}
use Rattle.sql_tree.specs.declared.statement.CreateRole.{CreateRole}
use Rattle.cat_items.specs.declared.edit.Edit.{Edit}
use Rattle.cat_items.specs.declared.edit.Refusal.{Refusal}
use Rattle.cat_items.specs.declared.edit.Refusal.TheVariants.{NameReserved, NameExists}
use Rattle.cat_items.specs.declared.edit.Who.{Who}
use Rattle.cat_items.specs.declared.item.Item.{Item}
use Rattle.cat_items.specs.declared.item.Item.TheVariants.{Role, RoleAuth, RoleAdmin}
use Rattle.cat_items.specs.declared.item.RoleGrant.{RoleGrant}
use Rattle.cat_items.specs.declared.need.Auth.TheVariants.{System}
use Rattle.cat_items.specs.Reach.{Has}
use Rattle.cat_items.specs.Rights.{IsAuthorization}
use Rattle.edit_rules.specs.Grantors.{IsGrantor, no_current_role}

-- no role is called so
abbrev pub IsReservedRole : NameBytes → Type 0
IsReservedRole name = (name ≡ codes "PUBLIC") ⊎ ((name ≡ codes "NONE") ⊎ (name ≡ codes "_SYSTEM"))

abbrev pub reserved_role : NameBytes → Refusal → Type 0
reserved_role name refusal = IsReservedRole name × (refusal ≡ NameReserved)

-- a user or a role has this name, the session's user among them: they have one set of names
abbrev pub IsTaken : List Item → Who → NameBytes → Type 0
IsTaken c who name = Has c (IsAuthorization name) ⊎ (name ≡ who.user)

abbrev pub authorization_exists : List Item → Who → NameBytes → Refusal → Type 0
authorization_exists c who name refusal = IsTaken c who name × (refusal ≡ NameExists (name ∷ []))

abbrev pub create_role_refusals : List Item → Who → CreateRole → List (Refusal → Type 0)
create_role_refusals c who parts = reserved_role parts.role ∷ no_current_role c who parts.admin ∷ authorization_exists c who parts.role ∷ []

-- the system grants the role
abbrev pub grant_by_system : NameBytes → NameBytes → RoleGrant
grant_by_system role admin = record { role = role; grantor = System; grantee = admin }

-- the role is added, and the system grants it with the admin option
abbrev pub creating_role : NameBytes → NameBytes → Edit
creating_role role admin = record {
  target = [];
  changed = [];
  added = Role role ∷ RoleAuth (grant_by_system role admin) ∷ RoleAdmin (grant_by_system role admin) ∷ [];
}

-- it is granted to the current user, or to whom WITH ADMIN names
abbrev pub IsRoleCreation : List Item → Who → CreateRole → Edit → Type 0
IsRoleCreation c who parts edit = (admin : NameBytes) × IsGrantor c who parts.admin admin × (edit ≡ creating_role parts.role admin)
