-- Who may see what (SQL:2003 part 11: the views of the Information Schema show what the current user or an enabled role may see).
use Rattle.std.specs.Prelude.{◌≡◌, ◌↔◌, ◌⊎◌, ◌+◌, ◌<◌, ◌≤◌, ℕ, Bool, true, false, IsTrue, List, [], Option, Some, None, is_some, slice_index_or}
use Rattle.std.specs.List.{Contains}
use Rattle.sql_names.specs.declared.object.Object.{Object}
use Rattle.sql_tree.specs.declared.rights.Action.{Action}
use Rattle.sql_tree.specs.declared.rights.Action.TheVariants as action
use Rattle.cat_items.specs.declared.need.Auth.{Auth}
use Rattle.cat_items.specs.declared.need.Auth.TheVariants as auths
use Rattle.cat_items.specs.declared.need.Need.{Need}
use Rattle.cat_items.specs.declared.item.Column.{Column}
use Rattle.cat_items.specs.declared.item.Domain.{Domain}
use Rattle.cat_items.specs.declared.item.Right.{Right}
use Rattle.cat_items.specs.declared.item.RoleGrant.{RoleGrant}
use Rattle.cat_items.specs.declared.item.Routine.{Routine}
use Rattle.cat_items.specs.declared.item.View.{View}
use Rattle.cat_items.specs.declared.item.Item.{Item}
use Rattle.cat_items.specs.declared.item.Item.TheVariants as item
use Rattle.cat_items.specs.Ranges.{IsRange}
use Rattle.cat_items.specs.Reach.{Has, Reaches}
use Rattle.cat_items.specs.Rights.{path_of, IsObject}
use Rattle.cat_items.specs.Shape.{IsColumnOf}
use Rattle.schema_tables.specs.Shown.{Shown, ShownView, ShownColumn, ShownDomain, ShownRoutine, of_user, of_role, of_enabled_role, of_role_auth, of_role_admin, of_schema, of_table, of_view, of_column, of_domain, of_domain_check, of_key, of_foreign, of_check, of_assertion, of_routine, of_view_needs, of_routine_needs, of_held, of_grantable}

-- the user of a session, and its enabled roles
pub record Session : Type 0 where
  pub user : List ℕ
  pub enabled : List (List ℕ)

-- a session, or none, for whom nothing is hidden
abbrev pub Viewer : Type 0
Viewer = Option Session

-- the user, or an enabled role
abbrev pub IsOwn : Session → List ℕ → Type 0
IsOwn s name = (name ≡ s.user) ⊎ Contains s.enabled name

-- the user, an enabled role, or PUBLIC
abbrev pub IsOwnAuth : Session → Auth → Type 0
IsOwnAuth s auths.System = ⊥
IsOwnAuth s auths.Public = Unit {0}
IsOwnAuth s (auths.Named name) = IsOwn s name

abbrev pub IsSchemaOwned : Session → List ℕ → Item → Type 0
IsSchemaOwned s schema (item.Schema x) = (x.name ≡ schema) × IsOwn s x.owner
IsSchemaOwned s schema x = ⊥

-- the owner of this schema is the user or an enabled role
abbrev pub Owns : List Item → Viewer → List ℕ → Type 0
Owns c None schema = Unit {0}
Owns c (Some s) schema = Has c (IsSchemaOwned s schema)

abbrev pub IsTableAction : Action → Type 0
IsTableAction action.Usage = ⊥
IsTableAction action.Execute = ⊥
IsTableAction action.Admin = ⊥
IsTableAction other = Unit {0}

-- a need of this object, or of a column of it; or of this column
abbrev pub IsNeedOn : Item → Need → Type 0
IsNeedOn (item.Column x) need = IsTableAction need.action × (need.on ≡ path_of x.table) × (need.column ≡ Some x.name)
IsNeedOn x need = IsObject need.action need.on x

abbrev pub IsRightOn : Session → Item → Item → Type 0
IsRightOn s x (item.Held r) = IsNeedOn x r.need × IsOwnAuth s r.grantee
IsRightOn s x y = ⊥

-- the user, PUBLIC or an enabled role has some privilege on it, or on a column of it
abbrev pub HasRightOn : List Item → Viewer → Item → Type 0
HasRightOn c None x = Unit {0}
HasRightOn c (Some s) x = Has c (IsRightOn s x)

-- a right that the user, PUBLIC or an enabled role granted or has
abbrev pub IsPartyTo : Viewer → Right → Type 0
IsPartyTo None r = Unit {0}
IsPartyTo (Some s) r = IsOwnAuth s r.grantor ⊎ IsOwnAuth s r.grantee

-- a role that is granted to the user, or to a role that the user reaches
abbrev pub IsApplicableTo : List Item → Viewer → RoleGrant → Type 0
IsApplicableTo c None g = Unit {0}
IsApplicableTo c (Some s) g = Reaches c (auths.Named s.user) (auths.Named g.grantee)

-- shown where it is so, and else hidden
abbrev pub IsShownWhere : {X : Type 0} → Type 0 → Option X → Option X → Type 0
IsShownWhere owned whole shown = (owned → shown ≡ whole) × (¬ owned → shown ≡ None)

-- the rank of a column by place: the columns of a table stand together in a catalogue, by their places
abbrev pub IsPosition : List Item → Column → ℕ → Type 0
IsPosition c x position = (from to k : ℕ) × IsRange c from to (IsColumnOf x.table) × (k < to) × (slice_index_or c k (item.Column x) ≡ item.Column x) × (from ≤ k) × (k + 1 ≡ from + position)

abbrev pub IsShownView : List Item → Viewer → View → ShownView → Type 0
IsShownView c viewer v s = HasRightOn c viewer (item.View v) × (s.view ≡ v.view) × IsShownWhere (Owns c viewer v.view.schema) (Some v.query) s.query × (s.plain ≡ is_some v.base)

pub record IsShownColumn (c : List Item) (viewer : Viewer) (x : Column) (s : ShownColumn) : Type 0 where
  pub may : HasRightOn c viewer (item.Column x)
  pub table : s.table ≡ x.table
  pub name : s.name ≡ x.name
  pub position : IsPosition c x s.position
  pub default : IsShownWhere (Owns c viewer x.table.schema) x.default s.default
  pub not_null : s.not_null ≡ x.not_null
  pub sort : s.sort ≡ x.sort
  pub domain : s.domain ≡ x.domain

abbrev pub IsShownDomain : List Item → Viewer → Domain → ShownDomain → Type 0
IsShownDomain c viewer d s = HasRightOn c viewer (item.Domain d) × (s.domain ≡ d.domain) × (s.sort ≡ d.sort) × IsShownWhere (Owns c viewer d.domain.schema) d.default s.default

abbrev pub IsShownRoutine : List Item → Viewer → Routine → ShownRoutine → Type 0
IsShownRoutine c viewer r s = HasRightOn c viewer (item.Routine r) × (s.routine ≡ r.routine) × (s.params ≡ r.params) × (s.returns ≡ r.returns) × IsShownWhere (Owns c viewer r.routine.schema) (Some r.body) s.body

-- an enabled role; of the whole catalogue there is none
abbrev pub IsEnabledRole : Viewer → List ℕ → Type 0
IsEnabledRole None role = ⊥
IsEnabledRole (Some s) role = Contains s.enabled role

-- the list of all authorizations is for the whole catalogue alone
abbrev pub SeesAll : Viewer → Type 0
SeesAll None = Unit {0}
SeesAll (Some s) = ⊥

-- what is shown of a catalogue
abbrev pub IsShown : List Item → Viewer → Shown → Type 0
IsShown c viewer (of_user name) = SeesAll viewer × Contains c (item.User name)
IsShown c viewer (of_role name) = SeesAll viewer × Contains c (item.Role name)
IsShown c viewer (of_enabled_role name) = IsEnabledRole viewer name
IsShown c viewer (of_role_auth g) = Contains c (item.RoleAuth g) × IsApplicableTo c viewer g
IsShown c viewer (of_role_admin g) = Contains c (item.RoleAdmin g) × IsApplicableTo c viewer g
IsShown c viewer (of_schema x) = Contains c (item.Schema x) × Owns c viewer x.name
IsShown c viewer (of_table t) = Contains c (item.Table t) × HasRightOn c viewer (item.Table t)
IsShown c viewer (of_view s) = (v : View) × Contains c (item.View v) × IsShownView c viewer v s
IsShown c viewer (of_column s) = (x : Column) × Contains c (item.Column x) × IsShownColumn c viewer x s
IsShown c viewer (of_domain s) = (d : Domain) × Contains c (item.Domain d) × IsShownDomain c viewer d s
IsShown c viewer (of_domain_check d) = Contains c (item.DomainCheck d) × Owns c viewer d.name.schema
IsShown c viewer (of_key k) = Contains c (item.Key k) × Owns c viewer k.name.schema
IsShown c viewer (of_foreign f) = Contains c (item.Foreign f) × Owns c viewer f.name.schema
IsShown c viewer (of_check x) = Contains c (item.Check x) × Owns c viewer x.name.schema
IsShown c viewer (of_assertion a) = Contains c (item.Assertion a) × Owns c viewer a.name.schema
IsShown c viewer (of_routine s) = (r : Routine) × Contains c (item.Routine r) × IsShownRoutine c viewer r s
IsShown c viewer (of_view_needs n) = (v : View) × Contains c (item.View v) × Owns c viewer v.view.schema × (n ≡ record { object = v.view; needs = v.needs })
IsShown c viewer (of_routine_needs n) = (r : Routine) × Contains c (item.Routine r) × Owns c viewer r.routine.schema × (n ≡ record { object = r.routine; needs = r.needs })
IsShown c viewer (of_held r) = Contains c (item.Held r) × IsPartyTo viewer r
IsShown c viewer (of_grantable r) = Contains c (item.Grantable r) × IsPartyTo viewer r
