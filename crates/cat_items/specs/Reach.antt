-- Which authorizations an authorization reaches (applicable roles, SQL:2003 part 2, 4.34).
use Rattle.std.specs.Prelude.{◌≡◌, List, [], ◌∷◌}
use Rattle.std.specs.List.{Contains}
use Rattle.sql_names.specs.NameBytes.{NameBytes}
use Rattle.cat_items.specs.declared.need.Auth.{Auth}
use Rattle.cat_items.specs.declared.need.Auth.TheVariants.{System, Public, Named}
use Rattle.cat_items.specs.declared.item.Item.{Item}
use Rattle.cat_items.specs.declared.item.Item.TheVariants.{RoleAuth}

-- some item of the list is so
abbrev pub Has : List Item → (Item → Type 0) → Type 0
Has s P = (y : Item) × Contains s y × P y

-- a role authorization of this role to this user or role
abbrev pub GrantsRole : NameBytes → NameBytes → Item → Type 0
GrantsRole role grantee (RoleAuth g) = (g.role ≡ role) × (g.grantee ≡ grantee)
GrantsRole role grantee x = ⊥

-- role authorizations lead from a name, role by role, to another
abbrev pub Leads : List Item → NameBytes → List NameBytes → NameBytes → Type 0
Leads s from [] to = from ≡ to
Leads s from (role ∷ roles) to = Has s (GrantsRole role from) × Leads s role roles to

-- itself, PUBLIC, and each role to which role authorizations lead from it
abbrev pub Reaches : List Item → Auth → Auth → Type 0
Reaches s a Public = Unit {0}
Reaches s (Named from) (Named to) = (roles : List NameBytes) × Leads s from roles to
Reaches s System System = Unit {0}
Reaches s a g = ⊥
