-- What the names of a statement stand for, and refusals by names that don't stand.
use Rattle.std.specs.Prelude.{◌≡◌, List, [], ◌∷◌}
use Rattle.sql_names.specs.NameBytes.{NameBytes}
use Rattle.sql_names.specs.declared.column.ObjectName.{ObjectName}
use Rattle.sql_names.specs.declared.column.ObjectName.TheVariants.{Unqualified, Qualified}
use Rattle.sql_names.specs.declared.object.Object.{Object}
use Rattle.cat_items.specs.declared.edit.Refusal.{Refusal}
use Rattle.cat_items.specs.declared.edit.Refusal.TheVariants.{UnknownName, NameExists}
use Rattle.cat_items.specs.declared.item.Item.{Item}
use Rattle.cat_items.specs.declared.item.Item.TheVariants as item
use Rattle.cat_items.specs.Reach.{Has}
use Rattle.cat_items.specs.Rights.{path_of, IsAuthorization, IsRole, IsSchema, IsBaseTable, IsTable, IsColumn}

-- an object, in the session's schema where no schema is named
abbrev pub object_in : NameBytes → ObjectName → Object
object_in schema (Unqualified name) = record { schema = schema; name = name }
object_in schema (Qualified object) = object

-- a constraint of a table or a domain, or an assertion: they have one set of names
abbrev pub IsConstraint : Object → Item → Type 0
IsConstraint name (item.DomainCheck d) = d.name ≡ name
IsConstraint name (item.Key k) = k.name ≡ name
IsConstraint name (item.Foreign f) = f.name ≡ name
IsConstraint name (item.Check x) = x.name ≡ name
IsConstraint name (item.Assertion a) = a.name ≡ name
IsConstraint name x = ⊥

-- no user and no role has this name
abbrev pub unknown_authorization : List Item → NameBytes → Refusal → Type 0
unknown_authorization c name refusal = (¬ (Has c (IsAuthorization name))) × (refusal ≡ UnknownName (name ∷ []))

-- no role has this name
abbrev pub unknown_role : List Item → NameBytes → Refusal → Type 0
unknown_role c name refusal = (¬ (Has c (IsRole name))) × (refusal ≡ UnknownName (name ∷ []))

-- no schema has this name
abbrev pub unknown_schema : List Item → NameBytes → Refusal → Type 0
unknown_schema c name refusal = (¬ (Has c (IsSchema name))) × (refusal ≡ UnknownName (name ∷ []))

-- no base table has this name
abbrev pub unknown_base_table : List Item → Object → Refusal → Type 0
unknown_base_table c table refusal = (¬ (Has c (IsBaseTable table))) × (refusal ≡ UnknownName (path_of table))

-- the table or view has no column of this name
abbrev pub unknown_column : List Item → Object → NameBytes → Refusal → Type 0
unknown_column c table name refusal = (¬ (Has c (IsColumn (path_of table) name))) × (refusal ≡ UnknownName (table.schema ∷ table.name ∷ name ∷ []))

-- a constraint or an assertion has this name
abbrev pub constraint_exists : List Item → Object → Refusal → Type 0
constraint_exists c name refusal = Has c (IsConstraint name) × (refusal ≡ NameExists (path_of name))

-- a base table or a view has this name
abbrev pub table_exists : List Item → Object → Refusal → Type 0
table_exists c table refusal = Has c (IsTable (path_of table)) × (refusal ≡ NameExists (path_of table))
