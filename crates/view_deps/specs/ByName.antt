-- The columns of tables and views by their names.
use Rattle.std.specs.Prelude.{◌≡◌, List, Option, None, Some, flat_map}
use Rattle.std.specs.BTreeMap.{BTreeMap, get}
use Rattle.std.specs.Cmp.Lexicographic.{slice_cmp}
use Rattle.std.specs.Ordering.{nat_cmp}
use Rattle.sql_names.specs.NameBytes.{NameBytes}
use Rattle.sql_names.specs.declared.object.Object.{Object}
use Rattle.sql_names.specs.declared.sort.Param.{Param}
use Rattle.sql_names.specs.declared.sort.SqlType.{SqlType}
use Rattle.name_scopes.specs.Known.{column_in}
use Rattle.cat_items.specs.declared.item.Item.{Item}
use Rattle.view_deps.specs.Described.{columns_in}
use Rattle.view_deps.specs.declared.by_name.Wide.{Wide}

abbrev pub Sorts : Type 0
Sorts = BTreeMap NameBytes SqlType

-- the type at a name
abbrev pub sort_at : Sorts → NameBytes → Option SqlType
sort_at sorts name = get (slice_cmp nat_cmp) sorts name

-- the first that there is
abbrev pub first_of_two : Option SqlType → Option SqlType → Option SqlType
first_of_two None other = other
first_of_two (Some sort) other = Some sort

-- columns are joined to others: an earlier one of a name hides them
abbrev pub Joins : List Param → Sorts → Sorts → Type 0
Joins columns old new = (name : NameBytes) → sort_at new name ≡ first_of_two (sort_at old name) (column_in name columns)

-- at each name stands what the descriptors of the columns say
abbrev pub AreSorts : List Item → Object → Sorts → Type 0
AreSorts items table sorts = (name : NameBytes) → sort_at sorts name ≡ column_in name (flat_map (columns_in table) items)

abbrev pub IsWide : List Item → Wide → Type 0
IsWide items wide = AreSorts items wide.table wide.sorts
