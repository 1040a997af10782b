-- DROP COLUMN: its refusals in order, and what goes with the column (drop column definition, SQL:2003 part 2, 11.18).
use Rattle.std.specs.Prelude.{◌≡◌, ◌≢◌, ◌⊎◌, List, [], ◌∷◌, None, Some}
use Rattle.std.specs.List.{Contains}
use Rattle.sql_names.specs.NameBytes.{NameBytes}
use Rattle.sql_names.specs.declared.object.Object.{Object}
use Rattle.cat_items.specs.declared.edit.Edit.{Edit}
use Rattle.cat_items.specs.declared.edit.Refusal.TheVariants.{OnlyColumn}
use Rattle.cat_items.specs.declared.item.Item.{Item}
use Rattle.cat_items.specs.declared.item.Item.TheVariants as item
use Rattle.cat_items.specs.declared.item.Right.{Right}
use Rattle.cat_items.specs.declared.need.Need.{Need}
use Rattle.cat_items.specs.Reach.{Has}
use Rattle.cat_items.specs.Rights.{path_of, reference}
use Rattle.edit_rules.specs.Names.{unknown_base_table, unknown_column}
use Rattle.chosen_parts.specs.Tables.{IsTableAction}
use Rattle.statement_steps.specs.Steps.{MakesEdit, Nothing, Steps, where_it_is}

-- a need on a table or view is one on this table as a whole or on this column of it
abbrev pub IsOfColumn : Object → NameBytes → Need → Type 0
IsOfColumn table name need = IsTableAction need.action → (need.on ≡ path_of table) × ((need.column ≡ None) ⊎ (need.column ≡ Some name))

-- a condition that needs REFERENCES on this column, names it, and it names no other column and no other table
abbrev pub NamesAlone : Object → NameBytes → List Need → Type 0
NamesAlone table name needs = Contains needs (reference table name) × ((need : Need) → Contains needs need → IsOfColumn table name need)

-- a privilege on the column
abbrev pub IsRightOn : Object → NameBytes → Right → Type 0
IsRightOn table name r = IsTableAction r.need.action × (r.need.on ≡ path_of table) × (r.need.column ≡ Some name)

-- the column, the privileges on it, and the constraints of its table that name it, no other column and no other table
abbrev pub GoesWithColumn : Object → NameBytes → Item → Type 0
GoesWithColumn table name (item.Column x) = (x.table ≡ table) × (x.name ≡ name)
GoesWithColumn table name (item.Key k) = (k.table ≡ table) × (k.columns ≡ name ∷ [])
GoesWithColumn table name (item.Foreign f) = (f.table ≡ table) × (f.columns ≡ name ∷ []) × (f.target ≡ table) × (f.target_columns ≡ name ∷ [])
GoesWithColumn table name (item.Check x) = (x.table ≡ table) × NamesAlone table name x.needs
GoesWithColumn table name (item.Held r) = IsRightOn table name r
GoesWithColumn table name (item.Grantable r) = IsRightOn table name r
GoesWithColumn table name x = ⊥

-- a column of the table of another name
abbrev pub IsOtherColumn : Object → NameBytes → Item → Type 0
IsOtherColumn table name (item.Column x) = (x.table ≡ table) × (x.name ≢ name)
IsOtherColumn table name x = ⊥

abbrev pub MakesColumnDrop : List Item → Object → NameBytes → Edit → Type 0
MakesColumnDrop c table name edit = MakesEdit c (GoesWithColumn table name) Nothing Nothing edit

-- the only column of a table can't be dropped
abbrev pub dropping_column : List Item → Object → NameBytes → Steps
dropping_column c table name = record {
  by_tree = [];
  names = unknown_base_table c table ∷ unknown_column c table name ∷ [];
  schema = table.schema;
  taken = [];
  rules = where_it_is (¬ (Has c (IsOtherColumn table name))) OnlyColumn ∷ [];
  needs = λ need. ⊥;
  edit = MakesColumnDrop c table name;
}
