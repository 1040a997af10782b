-- Which rights are put in, layer by layer.
use Rattle.std.specs.Prelude.{◌≡◌, ◌↔◌, ◌⊎◌, List, Option, Some, None}
use Rattle.std.specs.List.{Contains}
use Rattle.sql_names.specs.NameBytes.{NameBytes}
use Rattle.sql_names.specs.declared.object.Object.{Object}
use Rattle.sql_tree.specs.declared.rights.Action.{Action}
use Rattle.cat_items.specs.declared.need.Auth.TheVariants.{System, Named}
use Rattle.cat_items.specs.declared.need.Need.{Need}
use Rattle.cat_items.specs.declared.item.Schema.{Schema}
use Rattle.cat_items.specs.declared.item.Right.{Right}
use Rattle.cat_items.specs.declared.item.Item.{Item}
use Rattle.cat_items.specs.declared.item.Item.TheVariants as item
use Rattle.cat_items.specs.Rights.{path_of, HasColumn}
use Rattle.cat_items.specs.Survivors.{MayBeSystemRow}

-- a privilege or a grant option that is so
abbrev pub IsRightWhere : (Right → Type 0) → Item → Type 0
IsRightWhere P (item.Held r) = P r
IsRightWhere P (item.Grantable r) = P r
IsRightWhere P x = ⊥

-- the first list's items, and both kinds of each right that is so
abbrev pub IsAdded : List Item → List Item → (Right → Type 0) → Type 0
IsAdded old new P = (x : Item) → Contains new x ↔ (Contains old x ⊎ IsRightWhere P x)

-- a right by the system to this owner, whose need is so
abbrev pub IsToOwner : NameBytes → (Need → Type 0) → Right → Type 0
IsToOwner owner Q r = (r.grantor ≡ System) × (r.grantee ≡ Named owner) × Q r.need

-- one of these actions on an object, or on a column of it
abbrev pub IsAction : List Action → Object → Option NameBytes → Need → Type 0
IsAction actions on column need = (need.on ≡ path_of on) × (need.column ≡ column) × Contains actions need.action

-- one of these actions on this column of the object
abbrev pub IsColumnAction : List Action → Object → Need → Item → Type 0
IsColumnAction actions on need (item.Column c) = (c.table ≡ on) × IsAction actions on (Some c.name) need
IsColumnAction actions on need x = ⊥

-- the schema of an object on which the system could grant something
abbrev pub schema_of_object : Item → Option NameBytes
schema_of_object (item.Table t) = Some t.schema
schema_of_object (item.View v) = Some v.view.schema
schema_of_object (item.Domain d) = Some d.domain.schema
schema_of_object (item.Routine r) = Some r.routine.schema
schema_of_object x = None

-- what the system could grant on this object
abbrev pub IsRowOf : List Item → Item → Need → Type 0
IsRowOf c x need = HasColumn c need.on need.column × ((schema : NameBytes) × MayBeSystemRow schema need x)

-- a right that the system could grant on this object to its schema's owner
abbrev pub IsSystemRightOn : List Item → Item → Right → Type 0
IsSystemRightOn c x r = (s : Schema) × Contains c (item.Schema s) × HasColumn c r.need.on r.need.column × IsToOwner s.owner (λ need. MayBeSystemRow s.name need x) r
