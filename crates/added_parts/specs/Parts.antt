-- Whether all stands that the added items of an edit name and need.
use Rattle.std.specs.Prelude.{◌++◌, List, Option, Some, None}
use Rattle.std.specs.List.{All, Contains}
use Rattle.sql_names.specs.NameBytes.{NameBytes}
use Rattle.sql_names.specs.declared.object.Object.{Object}
use Rattle.cat_items.specs.declared.need.Auth.{Auth}
use Rattle.cat_items.specs.declared.need.Auth.TheVariants.{System, Named}
use Rattle.cat_items.specs.declared.need.Need.{Need}
use Rattle.cat_items.specs.declared.item.RoleGrant.{RoleGrant}
use Rattle.cat_items.specs.declared.item.Right.{Right}
use Rattle.cat_items.specs.declared.item.Item.{Item}
use Rattle.cat_items.specs.declared.item.Item.TheVariants as item
use Rattle.cat_items.specs.Reach.{Has}
use Rattle.cat_items.specs.Relevant.{IsFirstSchema}
use Rattle.cat_items.specs.Rights.{path_of, IsAuthorization, IsRole, IsSchema, IsBaseTable, IsTable, IsDomain, Stands}
use Rattle.cat_items.specs.Shape.{IsColumnOf}
use Rattle.cat_items.specs.Supported.{HasColumns, IsKey}

-- the user or role stands, where one is named
abbrev pub AuthStands : List Item → Auth → Type 0
AuthStands s (Named name) = Has s (IsAuthorization name)
AuthStands s a = Unit {0}

-- who grants a right isn't the system, and stands where one is named
abbrev pub GrantorStands : List Item → Auth → Type 0
GrantorStands s System = ⊥
GrantorStands s grantor = AuthStands s grantor

abbrev pub DomainStands : List Item → Option Object → Type 0
DomainStands s None = Unit {0}
DomainStands s (Some domain) = Has s (IsDomain (path_of domain))

-- it has columns, none of which is of c
abbrev pub HasNewColumns : List Item → List Item → Object → Type 0
HasNewColumns c s table = Has s (IsColumnOf table) × (¬ (Has c (IsColumnOf table)))

abbrev pub SchemaAndNeedsStand : List Item → NameBytes → List Need → Type 0
SchemaAndNeedsStand s schema needs = Has s (IsSchema schema) × All (Stands s) needs

-- the schema of a constraint of this name, its base table, and these columns of that
abbrev pub ConstraintStands : List Item → Object → Object → List NameBytes → Type 0
ConstraintStands s name table columns = Has s (IsSchema name.schema) × Has s (IsBaseTable table) × HasColumns s table columns

abbrev pub RoleGrantStands : List Item → RoleGrant → Type 0
RoleGrantStands s g = Has s (IsRole g.role) × Has s (IsAuthorization g.grantee) × AuthStands s g.grantor

abbrev pub RightStands : List Item → Right → Type 0
RightStands s r = Stands s r.need × Has s (IsFirstSchema r.need.on) × AuthStands s r.grantee × GrantorStands s r.grantor

-- All that the item names and needs stands in s, which has the items of the catalogue c too.
abbrev pub PartsStand : List Item → List Item → Item → Type 0
PartsStand c s (item.User n) = Unit {0}
PartsStand c s (item.Role n) = Unit {0}
PartsStand c s (item.Schema x) = Has s (IsAuthorization x.owner)
PartsStand c s (item.Table t) = Has s (IsSchema t.schema) × HasNewColumns c s t
PartsStand c s (item.View v) = SchemaAndNeedsStand s v.view.schema v.needs
PartsStand c s (item.Column x) = Has s (IsSchema x.table.schema) × Has s (IsTable (path_of x.table)) × DomainStands s x.domain
PartsStand c s (item.Domain d) = Has s (IsSchema d.domain.schema)
PartsStand c s (item.DomainCheck d) = Has s (IsDomain (path_of d.domain)) × SchemaAndNeedsStand s d.name.schema d.needs
PartsStand c s (item.Key k) = ConstraintStands s k.name k.table k.columns
PartsStand c s (item.Foreign f) = ConstraintStands s f.name f.table f.columns × Has s (IsBaseTable f.target) × HasColumns s f.target f.target_columns × Has s (IsKey f.key)
PartsStand c s (item.Check x) = ConstraintStands s x.name x.table x.columns × All (Stands s) x.needs
PartsStand c s (item.Assertion a) = SchemaAndNeedsStand s a.name.schema a.needs
PartsStand c s (item.Routine r) = SchemaAndNeedsStand s r.routine.schema r.needs
PartsStand c s (item.RoleAuth g) = RoleGrantStands s g
PartsStand c s (item.RoleAdmin g) = RoleGrantStands s g × Contains s (item.RoleAuth g)
PartsStand c s (item.Held r) = RightStands s r
PartsStand c s (item.Grantable r) = RightStands s r × Contains s (item.Held r)

-- all that the added items name and need stands, in the catalogue or among them
abbrev pub AllStand : List Item → List Item → Type 0
AllStand c added = All (PartsStand c (c ++ added)) added
