-- Topics: under which an item stands, and on which an item depends. What stands under a topic concerns what depends on it.
use Rattle.std.specs.Prelude.{◌≡◌, ◌⊎◌, ℕ, List, Option, Some, None}
use Rattle.std.specs.List.{Contains}
use Rattle.sql_names.specs.declared.object.Object.{Object}
use Rattle.sql_tree.specs.declared.rights.Action.{Action}
use Rattle.sql_tree.specs.declared.rights.Action.TheVariants.{Insert, Update, Delete, Usage, Execute, Admin}
use Rattle.cat_items.specs.declared.need.Auth.{Auth}
use Rattle.cat_items.specs.declared.need.Auth.TheVariants.{System, Named}
use Rattle.cat_items.specs.declared.need.Need.{Need}
use Rattle.cat_items.specs.declared.item.View.{View}
use Rattle.cat_items.specs.declared.item.RoleGrant.{RoleGrant}
use Rattle.cat_items.specs.declared.item.Right.{Right}
use Rattle.cat_items.specs.declared.item.Item.{Item}
use Rattle.cat_items.specs.declared.item.Item.TheVariants as item
use Rattle.cat_items.specs.Reach.{Has, Reaches}
use Rattle.cat_items.specs.Rights.{path_of, IsAuthorization, IsRole, IsSchema, IsBaseTable, IsTable, IsDomain, IsRoutine, IsColumn, reference}
use Rattle.cat_items.specs.Supported.{IsKey, IsRoleAuth, IsHeld}
use Rattle.cat_items.specs.Shape.{IsColumnOf}
use Rattle.cat_items.specs.Relevant.{IsActor, IsUsageOf, IsBaseNeed, IsBaseColumnNeed}
use Rattle.cascade_laws.specs.Concerns.{IsRoleGrant}

pub data Topic : Type 0 where
  authorization : List ℕ → Topic
  role_named : List ℕ → Topic
  schema : List ℕ → Topic
  -- a base table or a view, and a base table
  table : List (List ℕ) → Topic
  base_table : Object → Topic
  columns : Object → Topic
  column : List (List ℕ) → List ℕ → Topic
  domain : List (List ℕ) → Topic
  routine : List (List ℕ) → Topic
  key : Object → Topic
  -- rights of a need to a grantee, role authorizations to a grantee, admin options of a role to a grantee
  supply : Need → Auth → Topic
  edges : List ℕ → Topic
  admins : List ℕ → List ℕ → Topic
  -- what an option adds to
  held : Right → Topic
  role_auth : RoleGrant → Topic

abbrev pub IsSupply : Need → Auth → Item → Type 0
IsSupply need g (item.Held r) = (r.need ≡ need) × (r.grantee ≡ g)
IsSupply need g (item.Grantable r) = (r.need ≡ need) × (r.grantee ≡ g)
IsSupply need g y = ⊥

abbrev pub IsEdgeOf : List ℕ → Item → Type 0
IsEdgeOf grantee (item.RoleAuth g) = g.grantee ≡ grantee
IsEdgeOf grantee y = ⊥

abbrev pub IsAdminTo : List ℕ → List ℕ → Item → Type 0
IsAdminTo role grantee (item.RoleAdmin g) = (g.role ≡ role) × (g.grantee ≡ grantee)
IsAdminTo role grantee y = ⊥

-- the item stands under the topic
abbrev pub IsUnder : Topic → Item → Type 0
IsUnder (authorization name) y = IsAuthorization name y
IsUnder (role_named name) y = IsRole name y
IsUnder (schema name) y = IsSchema name y
IsUnder (table path) y = IsTable path y
IsUnder (base_table o) y = IsBaseTable o y
IsUnder (columns o) y = IsColumnOf o y
IsUnder (column path name) y = IsColumn path name y
IsUnder (domain path) y = IsDomain path y
IsUnder (routine path) y = IsRoutine path y
IsUnder (key o) y = IsKey o y
IsUnder (supply need g) y = IsSupply need g y
IsUnder (edges name) y = IsEdgeOf name y
IsUnder (admins role name) y = IsAdminTo role name y
IsUnder (held r) y = IsHeld r y
IsUnder (role_auth g) y = IsRoleAuth g y

-- ---- by name

abbrev pub IsColumnTopic : Object → List (List ℕ) → Topic → Type 0
IsColumnTopic o names t = (name : List ℕ) × Contains names name × (t ≡ column (path_of o) name)

abbrev pub IsOptionalDomainTopic : Option Object → Topic → Type 0
IsOptionalDomainTopic None t = ⊥
IsOptionalDomainTopic (Some o) t = t ≡ domain (path_of o)

abbrev pub IsAuthTopic : Auth → Topic → Type 0
IsAuthTopic (Named name) t = t ≡ authorization name
IsAuthTopic a t = ⊥

-- the object of such an action
abbrev pub IsObjectTopic : Action → List (List ℕ) → Topic → Type 0
IsObjectTopic Usage path t = t ≡ domain path
IsObjectTopic Execute path t = t ≡ routine path
IsObjectTopic Admin path t = ⊥
IsObjectTopic by path t = t ≡ table path

abbrev pub IsNeedTopic : Need → Topic → Type 0
IsNeedTopic need t = IsObjectTopic need.action need.on t ⊎ ((name : List ℕ) × (need.column ≡ Some name) × (t ≡ column need.on name))

-- a right by the system depends on its schema, and its grantee, by way of its object
abbrev pub IsPartyTopic : Auth → Auth → Topic → Type 0
IsPartyTopic System grantee t = ⊥
IsPartyTopic grantor grantee t = IsAuthTopic grantor t ⊎ IsAuthTopic grantee t

abbrev pub IsRightTopic : Right → Topic → Type 0
IsRightTopic r t = IsNeedTopic r.need t ⊎ IsPartyTopic r.grantor r.grantee t

abbrev pub IsRoleGrantTopic : RoleGrant → Topic → Type 0
IsRoleGrantTopic g t = (t ≡ role_named g.role) ⊎ ((t ≡ authorization g.grantee) ⊎ IsAuthTopic g.grantor t)

-- a column, and a right, depend on the schema by way of the table or object
abbrev pub IsNameTopic : Item → Topic → Type 0
IsNameTopic (item.Schema x) t = t ≡ authorization x.owner
IsNameTopic (item.Table o) t = (t ≡ schema o.schema) ⊎ (t ≡ columns o)
IsNameTopic (item.View v) t = t ≡ schema v.view.schema
IsNameTopic (item.Column c) t = (t ≡ table (path_of c.table)) ⊎ IsOptionalDomainTopic c.domain t
IsNameTopic (item.Domain d) t = t ≡ schema d.domain.schema
IsNameTopic (item.DomainCheck d) t = (t ≡ schema d.name.schema) ⊎ (t ≡ domain (path_of d.domain))
IsNameTopic (item.Key k) t = (t ≡ schema k.name.schema) ⊎ ((t ≡ base_table k.table) ⊎ IsColumnTopic k.table k.columns t)
IsNameTopic (item.Foreign f) t = (t ≡ schema f.name.schema) ⊎ ((t ≡ base_table f.table) ⊎ (IsColumnTopic f.table f.columns t
    ⊎ ((t ≡ base_table f.target) ⊎ (IsColumnTopic f.target f.target_columns t ⊎ (t ≡ key f.key)))))
IsNameTopic (item.Check c) t = (t ≡ schema c.name.schema) ⊎ ((t ≡ base_table c.table) ⊎ IsColumnTopic c.table c.columns t)
IsNameTopic (item.Assertion a) t = t ≡ schema a.name.schema
IsNameTopic (item.Routine r) t = t ≡ schema r.routine.schema
IsNameTopic (item.RoleAuth g) t = IsRoleGrantTopic g t
IsNameTopic (item.RoleAdmin g) t = IsRoleGrantTopic g t
IsNameTopic (item.Held r) t = IsRightTopic r t
IsNameTopic (item.Grantable r) t = IsRightTopic r t
IsNameTopic x t = ⊥

abbrev pub IsOptionTopic : Item → Topic → Type 0
IsOptionTopic (item.Grantable r) t = t ≡ held r
IsOptionTopic (item.RoleAdmin g) t = t ≡ role_auth g
IsOptionTopic x t = ⊥

-- ---- by needs

-- the need that the system's right to change a plain view goes by
abbrev pub IsUpdateNeed : List Item → View → Action → Option (List ℕ) → Need → Type 0
IsUpdateNeed c v Insert None need = IsBaseNeed Insert v.base None need
IsUpdateNeed c v Update None need = IsBaseNeed Update v.base None need
IsUpdateNeed c v Delete None need = IsBaseNeed Delete v.base None need
IsUpdateNeed c v Insert (Some name) need = Has c (IsBaseColumnNeed v Insert name need)
IsUpdateNeed c v Update (Some name) need = Has c (IsBaseColumnNeed v Update name need)
IsUpdateNeed c v action name need = ⊥

abbrev pub IsUpdateNeedOn : List Item → Right → Need → Item → Type 0
IsUpdateNeedOn c r need (item.View v) = (r.need.on ≡ path_of v.view) × IsUpdateNeed c v r.need.action r.need.column need
IsUpdateNeedOn c r need x = ⊥

abbrev pub IsOwnRightNeed : List Item → Right → Auth → Need → Type 0
IsOwnRightNeed c r System need = Has c (IsUpdateNeedOn c r need)
IsOwnRightNeed c r grantor need = need ≡ r.need

-- the needs that an item looks for by itself: a table's are those of its columns, and those of the system's other
-- rights on a view, and on a routine, are those of the view and the routine
abbrev pub IsOwnNeed : List Item → Item → Need → Type 0
IsOwnNeed c (item.View v) need = Contains v.needs need
IsOwnNeed c (item.Column x) need = IsUsageOf x.domain need
IsOwnNeed c (item.DomainCheck d) need = Contains d.needs need
IsOwnNeed c (item.Foreign f) need = (name : List ℕ) × Contains f.target_columns name × (need ≡ reference f.target name)
IsOwnNeed c (item.Check x) need = Contains x.needs need
IsOwnNeed c (item.Assertion a) need = Contains a.needs need
IsOwnNeed c (item.Routine r) need = Contains r.needs need
IsOwnNeed c (item.Held r) need = IsOwnRightNeed c r r.grantor need
IsOwnNeed c (item.Grantable r) need = IsOwnRightNeed c r r.grantor need
IsOwnNeed c x need = ⊥

abbrev pub IsGrantOf : List ℕ → Item → Type 0
IsGrantOf role (item.RoleAuth g) = g.role ≡ role
IsGrantOf role (item.RoleAdmin g) = g.role ≡ role
IsGrantOf role x = ⊥

-- the item depends on the topic, where c has the schemas, views, columns and role authorizations
pub data DependsOn (c : List Item) (x : Item) (t : Topic) : Type 0 where
  by_name : IsNameTopic x t → DependsOn c x t
  by_option : IsOptionTopic x t → DependsOn c x t
  of_need : (need : Need) → IsOwnNeed c x need → IsNeedTopic need t → DependsOn c x t
  of_supply : (need : Need) (a g : Auth) → IsOwnNeed c x need → IsActor c x a → Reaches c a g → t ≡ supply need g → DependsOn c x t
  of_edges : (need : Need) (a : Auth) (name : List ℕ) → IsOwnNeed c x need → IsActor c x a → Reaches c a (Named name) → t ≡ edges name → DependsOn c x t
  of_role : (a : Auth) (name : List ℕ) → IsRoleGrant x → IsActor c x a → Reaches c a (Named name) → t ≡ edges name → DependsOn c x t
  of_admins : (a : Auth) (role name : List ℕ) → IsGrantOf role x → IsActor c x a → Reaches c a (Named name) → t ≡ admins role name → DependsOn c x t
