-- DROP ROLE (drop role statement, SQL:2003 part 2, 12.6).
use Rattle.std.specs.Prelude.{◌≡◌, ◌⊎◌, List, [], ◌∷◌}
use Rattle.sql_names.specs.NameBytes.{NameBytes}
use Rattle.cat_items.specs.declared.edit.Edit.{Edit}
use Rattle.cat_items.specs.declared.edit.Refusal.{Refusal}
use Rattle.cat_items.specs.declared.edit.Who.{Who}
use Rattle.cat_items.specs.declared.item.Item.{Item}
use Rattle.cat_items.specs.declared.item.Item.TheVariants.{Role, RoleAuth, RoleAdmin, Held, Grantable}
use Rattle.cat_items.specs.declared.need.Auth.TheVariants.{Named}
use Rattle.cat_items.specs.Rights.{admin}
use Rattle.edit_rules.specs.Chosen.{IsTaking}
use Rattle.edit_rules.specs.Names.{unknown_role}
use Rattle.edit_rules.specs.Privileges.{no_privilege}

-- the user needs an admin option of the role
abbrev pub drop_role_refusals : List Item → Who → NameBytes → List (Refusal → Type 0)
drop_role_refusals c who role = unknown_role c role ∷ no_privilege c who.user (admin role ∷ []) ∷ []

-- the role, the grants of it and to it, and the privileges that were granted to it
abbrev pub IsOfRole : NameBytes → Item → Type 0
IsOfRole role (Role n) = n ≡ role
IsOfRole role (RoleAuth g) = (g.role ≡ role) ⊎ (g.grantee ≡ role)
IsOfRole role (RoleAdmin g) = (g.role ≡ role) ⊎ (g.grantee ≡ role)
IsOfRole role (Held r) = r.grantee ≡ Named role
IsOfRole role (Grantable r) = r.grantee ≡ Named role
IsOfRole role x = ⊥

-- these are taken
abbrev pub IsRoleDrop : List Item → NameBytes → Edit → Type 0
IsRoleDrop c role edit = IsTaking c (IsOfRole role) edit
