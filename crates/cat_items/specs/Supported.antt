-- What an item rests on: where its support stands (dependencies and abandoned descriptors, SQL:2003 part 2, 12.7 and 11.21).
use Rattle.std.specs.Prelude.{◌≡◌, ◌≢◌, Bool, true, false, List, [], ◌∷◌, All, map, Option, Some, None}
use Rattle.sql_names.specs.NameBytes.{NameBytes}
use Rattle.sql_names.specs.declared.object.Object.{Object}
use Rattle.sql_tree.specs.declared.rights.Action.TheVariants as action
use Rattle.sql_tree.specs.declared.body.Security.{Security}
use Rattle.sql_tree.specs.declared.body.Security.TheVariants.{Definer, Invoker}
use Rattle.cat_items.specs.declared.need.Auth.{Auth}
use Rattle.cat_items.specs.declared.need.Auth.TheVariants.{System, Public, Named}
use Rattle.cat_items.specs.declared.item.Routine.{Routine}
use Rattle.cat_items.specs.declared.item.RoleGrant.{RoleGrant}
use Rattle.cat_items.specs.declared.item.Right.{Right}
use Rattle.cat_items.specs.declared.item.Item.{Item}
use Rattle.cat_items.specs.declared.item.Item.TheVariants as item
use Rattle.cat_items.specs.Reach.{Has}
use Rattle.cat_items.specs.Rights.{path_of, IsAuthorization, IsRole, IsSchema, IsBaseTable, IsTable, IsDomain, IsColumn, Stands, Met, MeetsAll, usage, reference, admin}
use Rattle.cat_items.specs.SystemRights.{SystemGrants, security_of}

-- it has each of these columns
abbrev pub HasColumns : List Item → Object → List NameBytes → Type 0
HasColumns s table columns = All (λ name. Has s (IsColumn (path_of table) name)) columns

-- what a column of this schema rests on where it is based on a domain: the domain, and USAGE on it for the owner
abbrev pub RestsOnDomain : List Item → NameBytes → Option Object → Type 0
RestsOnDomain s schema None = Unit {0}
RestsOnDomain s schema (Some domain) = Has s (IsDomain (path_of domain)) × Has s (MeetsAll false s schema (usage domain ∷ []))

-- a column that keeps its table
abbrev pub Keeps : List Item → Object → Item → Type 0
Keeps s table (item.Column c) = (c.table ≡ table) × RestsOnDomain s table.schema c.domain
Keeps s table x = ⊥

-- the key constraint of this name
abbrev pub IsKey : Object → Item → Type 0
IsKey name (item.Key k) = k.name ≡ name
IsKey name x = ⊥

-- the role authorization, or the held privilege, of the same fields
abbrev pub IsRoleAuth : RoleGrant → Item → Type 0
IsRoleAuth g (item.RoleAuth other) = other ≡ g
IsRoleAuth g x = ⊥

abbrev pub IsHeld : Right → Item → Type 0
IsHeld r (item.Held other) = other ≡ r
IsHeld r x = ⊥

-- with the owner's rights each need is met for the owner; with the caller's the objects and columns stand
abbrev pub RoutineRests : List Item → Routine → Security → Type 0
RoutineRests s r Definer = Has s (MeetsAll false s r.routine.schema r.needs)
RoutineRests s r Invoker = Has s (IsSchema r.routine.schema) × All (Stands s) r.needs

-- who granted a role: the system, or one who stands and has the admin option of it
abbrev pub MayGrantRole : List Item → NameBytes → Auth → Type 0
MayGrantRole s role System = Unit {0}
MayGrantRole s role Public = ⊥
MayGrantRole s role (Named name) = Has s (IsAuthorization name) × Met false s (Named name) (admin role)

abbrev pub RoleGrantRests : List Item → RoleGrant → Type 0
RoleGrantRests s g = Has s (IsRole g.role) × Has s (IsAuthorization g.grantee) × MayGrantRole s g.role g.grantor

-- who has a privilege: PUBLIC, or one who stands
abbrev pub IsGrantee : List Item → Auth → Type 0
IsGrantee s System = ⊥
IsGrantee s Public = Unit {0}
IsGrantee s (Named name) = Has s (IsAuthorization name)

-- who granted a privilege: the system by its rules, or one who stands and for whom it is met grantably
abbrev pub MayGrant : Bool → List Item → Right → Auth → Type 0
MayGrant grantable s r System = SystemGrants grantable s r
MayGrant grantable s r Public = ⊥
MayGrant grantable s r (Named name) = Has s (IsAuthorization name) × Met true s (Named name) r.need

abbrev pub RightRests : Bool → List Item → Right → Type 0
RightRests grantable s r = (r.need.action ≢ action.Admin) × Stands s r.need × IsGrantee s r.grantee × MayGrant grantable s r r.grantor

-- The items of s support the item; c is the list of which a table's columns are.
abbrev pub Supported : List Item → List Item → Item → Type 0
Supported c s (item.User n) = Unit {0}
Supported c s (item.Role n) = Unit {0}
Supported c s (item.Schema x) = Has s (IsAuthorization x.owner)
Supported c s (item.Table t) = Has s (IsSchema t.schema) × Has c (Keeps s t)
Supported c s (item.View v) = Has s (MeetsAll false s v.view.schema v.needs)
Supported c s (item.Column x) = Has s (IsSchema x.table.schema) × Has s (IsTable (path_of x.table)) × RestsOnDomain s x.table.schema x.domain
Supported c s (item.Domain d) = Has s (IsSchema d.domain.schema)
Supported c s (item.DomainCheck d) = Has s (IsDomain (path_of d.domain)) × Has s (MeetsAll false s d.name.schema d.needs)
Supported c s (item.Key k) = Has s (IsSchema k.name.schema) × Has s (IsBaseTable k.table) × HasColumns s k.table k.columns
Supported c s (item.Foreign f) = Has s (IsBaseTable f.table) × HasColumns s f.table f.columns × Has s (IsBaseTable f.target) × HasColumns s f.target f.target_columns
    × Has s (IsKey f.key) × Has s (MeetsAll false s f.name.schema (map (reference f.target) f.target_columns))
Supported c s (item.Check x) = Has s (IsBaseTable x.table) × HasColumns s x.table x.columns × Has s (MeetsAll false s x.name.schema x.needs)
Supported c s (item.Assertion a) = Has s (MeetsAll false s a.name.schema a.needs)
Supported c s (item.Routine r) = RoutineRests s r (security_of r.body)
Supported c s (item.RoleAuth g) = RoleGrantRests s g
Supported c s (item.RoleAdmin g) = RoleGrantRests s g × Has s (IsRoleAuth g)
Supported c s (item.Held r) = RightRests false s r
Supported c s (item.Grantable r) = RightRests true s r × Has s (IsHeld r)
