-- Columns and keys that a statement sees: of the table that it makes or alters its own, of another one those of the catalogue.
use Rattle.std.specs.Prelude.{◌≡◌, Bool, ◌&&◌, if◌then◌else◌, List, [], ◌∷◌, flat_map, bytes_eq}
use Rattle.sql_names.specs.NameBytes.{NameBytes}
use Rattle.sql_names.specs.declared.object.Object.{Object}
use Rattle.sql_names.specs.declared.sort.Param.{Param}
use Rattle.cat_items.specs.declared.item.Item.{Item}
use Rattle.cat_items.specs.declared.item.Item.TheVariants as item
use Rattle.cat_items.specs.declared.item.Key.{Key}
use Rattle.name_scopes.specs.Known.{same_object}
use Rattle.table_work.specs.declared.work.Work.{Work}

-- the column of a table that a descriptor is of, with its type
abbrev pub column_here : Object → Item → List Param
column_here table (item.Column x) = if same_object x.table table then record { name = x.name; sort = x.sort } ∷ [] else []
column_here table x = []

-- the columns of a table of the catalogue
abbrev pub columns_in : List Item → Object → List Param
columns_in c table = flat_map (column_here table) c

-- a key of a table, in its schema as each constraint of it is
abbrev pub is_key_of : Object → Key → Bool
is_key_of table k = same_object k.table table && bytes_eq k.name.schema table.schema

abbrev pub key_here : Object → Item → List Key
key_here table (item.Key k) = if is_key_of table k then k ∷ [] else []
key_here table x = []

-- the keys of a table of the catalogue
abbrev pub keys_in : List Item → Object → List Key
keys_in c table = flat_map (key_here table) c

abbrev pub columns_seen : List Item → Work → Object → List Param
columns_seen c w table = if same_object table w.table then w.columns else columns_in c table

abbrev pub keys_seen : List Item → Work → Object → List Key
keys_seen c w table = if same_object table w.table then w.keys else keys_in c table

abbrev pub IsCalled : NameBytes → Param → Type 0
IsCalled name x = x.name ≡ name
