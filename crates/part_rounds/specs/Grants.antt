-- What users and roles granted.
use Rattle.std.specs.Prelude.{◌≡◌, ◌≢◌, ◌∷◌, [], Bool, true, false, List}
use Rattle.sql_names.specs.NameBytes.{NameBytes}
use Rattle.sql_tree.specs.declared.rights.Action.TheVariants.{Admin}
use Rattle.cat_items.specs.declared.need.Auth.{Auth}
use Rattle.cat_items.specs.declared.need.Auth.TheVariants.{Named}
use Rattle.cat_items.specs.declared.item.Item.{Item}
use Rattle.cat_items.specs.declared.item.Item.TheVariants as item
use Rattle.cat_items.specs.Reach.{Has, Reaches}
use Rattle.cat_items.specs.Rights.{IsAdminFor, IsAuthorization, IsRightFor, IsRole, Stands}
use Rattle.cat_items.specs.Supported.{IsGrantee, IsHeld, IsRoleAuth}
use Rattle.part_rounds.specs.declared.grants.Grant.{Grant}
use Rattle.part_rounds.specs.declared.grants.Grant.TheVariants.{Role, Right}
use Rattle.part_rounds.specs.declared.grants.Granted.{Granted}

abbrev pub grantor_of : Grant → Auth
grantor_of (Role g) = g.now.grantor
grantor_of (Right r) = r.now.grantor

-- the user or role of this name made the grant
abbrev pub IsBy : Granted → Type 0
IsBy g = grantor_of g.grant ≡ Named g.by.now

-- the same of an item
abbrev pub IsGrantedBy : NameBytes → Item → Type 0
IsGrantedBy by (item.RoleAuth g) = g.grantor ≡ Named by
IsGrantedBy by (item.RoleAdmin g) = g.grantor ≡ Named by
IsGrantedBy by (item.Held r) = r.grantor ≡ Named by
IsGrantedBy by (item.Grantable r) = r.grantor ≡ Named by
IsGrantedBy by x = ⊥

-- the grant itself, or its option
abbrev pub grant_item : Bool → Grant → Item
grant_item false (Role g) = item.RoleAuth g.now
grant_item true (Role g) = item.RoleAdmin g.now
grant_item false (Right r) = item.Held r.now
grant_item true (Right r) = item.Grantable r.now

-- an option to this grantee that lets grant the same
abbrev pub IsOptionTo : Grant → Auth → Item → Type 0
IsOptionTo (Role grant) to (item.RoleAdmin g) = (g.role ≡ grant.now.role) × (Named g.grantee ≡ to)
IsOptionTo (Right right) to (item.Grantable r) = (r.need ≡ right.now.need) × (r.grantee ≡ to)
IsOptionTo grant to x = ⊥

-- an option that lets this user or role grant the same
abbrev pub IsOptionFor : List Item → Grant → NameBytes → Item → Type 0
IsOptionFor s (Role g) by x = IsAdminFor s (Named by) (g.now.role ∷ []) x
IsOptionFor s (Right r) by x = IsRightFor true s (Named by) r.now.need x

-- a role has such an option, and is reached from this user or role
abbrev pub LeadsOn : List Item → Grant → NameBytes → NameBytes → Type 0
LeadsOn s grant by role = Has s (IsOptionTo grant (Named role)) × Reaches s (Named by) (Named role)

-- a role authorization of such a role
abbrev pub IsWay : List Item → Grant → NameBytes → Item → Type 0
IsWay s grant by (item.RoleAuth g) = LeadsOn s grant by g.role
IsWay s grant by x = ⊥

-- it isn't one of a right to ADMIN
abbrev pub IsNoAdmin : Grant → Type 0
IsNoAdmin (Role g) = Unit {0}
IsNoAdmin (Right r) = r.now.need.action ≢ Admin

-- the item of the grant itself
abbrev pub IsMade : Grant → Item → Type 0
IsMade (Role g) x = IsRoleAuth g.now x
IsMade (Right r) x = IsHeld r.now x

-- it is there, where it is its option that is asked for
abbrev pub IsMadeFor : Bool → List Item → Grant → Type 0
IsMadeFor false s grant = Unit {0}
IsMadeFor true s grant = Has s (IsMade grant)

-- what it names stands: the role and its grantee; or the grantee of the right, and its object with its column
abbrev pub NamesStand : List Item → Grant → Type 0
NamesStand s (Role g) = Has s (IsRole g.now.role) × Has s (IsAuthorization g.now.grantee)
NamesStand s (Right r) = IsGrantee s r.now.grantee × Stands s r.now.need

-- and so does who made it
abbrev pub IsStanding : List Item → Grant → NameBytes → Type 0
IsStanding s grant by = Has s (IsAuthorization by) × NamesStand s grant
