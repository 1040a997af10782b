-- REVOKE of roles (revoke statement, SQL:2003 part 2, 12.7).
use Rattle.std.specs.Prelude.{◌≡◌, false, List}
use Rattle.sql_names.specs.NameBytes.{NameBytes}
use Rattle.sql_tree.specs.declared.statement.RevokeRoles.{RevokeRoles}
use Rattle.cat_items.specs.declared.edit.Edit.{Edit}
use Rattle.cat_items.specs.declared.edit.Refusal.{Refusal}
use Rattle.cat_items.specs.declared.edit.Who.{Who}
use Rattle.cat_items.specs.declared.item.Item.{Item}
use Rattle.cat_items.specs.declared.item.Item.TheVariants.{RoleAuth, RoleAdmin}
use Rattle.edit_rules.specs.Chosen.{IsTaking}
use Rattle.edit_rules.specs.Grantors.{IsGrantor}
use Rattle.role_edit.specs.GrantedRoles.{role_name_refusals, IsGrantBy}

abbrev pub revoke_roles_refusals : List Item → Who → RevokeRoles → List (Refusal → Type 0)
revoke_roles_refusals c who parts = role_name_refusals c who parts.roles parts.grantees parts.grantor

-- what the statement identifies: the role authorizations with their admin options, or these alone
abbrev pub IsIdentifiedRoleGrant : NameBytes → RevokeRoles → Item → Type 0
IsIdentifiedRoleGrant grantor parts (RoleAuth g) = (parts.option_alone ≡ false) × IsGrantBy grantor parts.roles parts.grantees g
IsIdentifiedRoleGrant grantor parts (RoleAdmin g) = IsGrantBy grantor parts.roles parts.grantees g
IsIdentifiedRoleGrant grantor parts x = ⊥

-- what is identified is taken
abbrev pub IsRoleRevokeEdit : List Item → Who → RevokeRoles → Edit → Type 0
IsRoleRevokeEdit c who parts edit = (grantor : NameBytes) × IsGrantor c who parts.grantor grantor × IsTaking c (IsIdentifiedRoleGrant grantor parts) edit
