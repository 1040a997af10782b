-- Columns that are made of definitions (column definition, SQL:2003 part 2, 11.4).
use Rattle.std.specs.Prelude.{◌+◌, ℕ, Bool, true, false, if◌then◌else◌, List, [], ◌∷◌, flat_map, Option, None, Some, bytes_eq}
use Rattle.std.specs.List.{list_any}
use Rattle.sql_names.specs.NameBytes.{NameBytes}
use Rattle.sql_names.specs.declared.object.Object.{Object}
use Rattle.sql_names.specs.declared.sort.Param.{Param}
use Rattle.sql_names.specs.declared.sort.SqlType.{SqlType}
use Rattle.sql_names.specs.declared.sort.SqlType.TheVariants as sorts
use Rattle.sql_tree.specs.declared.table.ColumnDefinition.{ColumnDefinition}
use Rattle.sql_tree.specs.declared.table.ColumnOption.{ColumnOption}
use Rattle.sql_tree.specs.declared.table.ColumnOption.TheVariants as options
use Rattle.sql_tree.specs.declared.table.ColumnType.{ColumnType}
use Rattle.sql_tree.specs.declared.table.ColumnType.TheVariants as bases
use Rattle.sql_tree.specs.declared.table.TableConstraintKind.{TableConstraintKind}
use Rattle.sql_tree.specs.declared.table.TableConstraintKind.TheVariants as kinds
use Rattle.cat_items.specs.declared.edit.Who.{Who}
use Rattle.cat_items.specs.declared.item.Column.{Column}
use Rattle.cat_items.specs.declared.item.Item.{Item}
use Rattle.cat_items.specs.declared.item.Item.TheVariants as item
use Rattle.edit_rules.specs.Names.{object_in}
use Rattle.name_scopes.specs.Known.{same_object}
use Rattle.table_parts.specs.declared.parts.Part.{Part}
use Rattle.table_parts.specs.declared.parts.Part.TheVariants as parts
use Rattle.table_parts.specs.Columns.{default_in}

-- the type of the domain of this name that a descriptor is of
abbrev pub sort_here : Object → Item → List SqlType
sort_here domain (item.Domain d) = if same_object d.domain domain then d.sort ∷ [] else []
sort_here domain x = []

abbrev pub first_sort : List SqlType → SqlType
first_sort [] = sorts.Integer
first_sort (sort ∷ more) = sort

-- the type of a column is its data type, or that of its domain; where no domain of the name stands the statement is refused by names,
-- which no type can change
abbrev pub sort_of : List Item → Who → ColumnType → SqlType
sort_of c who (bases.Type sort) = sort
sort_of c who (bases.Domain name) = first_sort (flat_map (sort_here (object_in who.schema name)) c)

-- the domain that a column is based on
abbrev pub domain_of : Who → ColumnType → Option Object
domain_of who (bases.Type sort) = None
domain_of who (bases.Domain name) = Some (object_in who.schema name)

-- the column that a part defines, with its type
abbrev pub column_described : List Item → Who → Part → List Param
column_described c who (parts.Column d) = record { name = d.column; sort = sort_of c who d.sort } ∷ []
column_described c who (parts.Constraint k) = []

abbrev pub columns_described : List Item → Who → List Part → List Param
columns_described c who all = flat_map (column_described c who) all

abbrev pub says_not_null : ColumnOption → Bool
says_not_null options.NotNull = true
says_not_null option = false

abbrev pub kind_has : NameBytes → TableConstraintKind → Bool
kind_has name (kinds.PrimaryKey columns) = list_any (λ other. bytes_eq other name) columns
kind_has name kind = false

-- a PRIMARY KEY with this column
abbrev pub makes_not_null : NameBytes → Part → Bool
makes_not_null name (parts.Column d) = false
makes_not_null name (parts.Constraint k) = kind_has name k.kind

-- NOT NULL is written, or the column is in a PRIMARY KEY
abbrev pub is_not_null : List Part → ColumnDefinition → Bool
is_not_null all d = if list_any says_not_null d.options then true else list_any (makes_not_null d.column) all

-- the column that is made at a place
abbrev pub column_made : List Item → Who → Object → List Part → ℕ → ColumnDefinition → Column
column_made c who table all place d = record {
  table = table;
  place = place;
  name = d.column;
  sort = sort_of c who d.sort;
  domain = domain_of who d.sort;
  default = default_in d.options;
  not_null = is_not_null all d;
}

-- with places from this one
abbrev pub columns_from : List Item → Who → Object → List Part → ℕ → List ColumnDefinition → List Column
columns_from c who table all place [] = []
columns_from c who table all place (d ∷ ds) = column_made c who table all place d ∷ columns_from c who table all (place + 1) ds
