-- SET DEFAULT and DROP DEFAULT of a column: their refusals in order, and what they put in its place (SQL:2003 part 2, 11.12 to 11.14).
use Rattle.std.specs.Prelude.{◌≡◌, List, [], ◌∷◌, Option}
use Rattle.std.specs.List.{Contains}
use Rattle.sql_names.specs.NameBytes.{NameBytes}
use Rattle.sql_names.specs.declared.object.Object.{Object}
use Rattle.sql_names.specs.declared.sort.Default.{Default}
use Rattle.cat_items.specs.declared.edit.Edit.{Edit}
use Rattle.cat_items.specs.declared.edit.Refusal.TheVariants.{TypeMismatch}
use Rattle.cat_items.specs.declared.item.Column.{Column}
use Rattle.cat_items.specs.declared.item.Item.{Item}
use Rattle.cat_items.specs.declared.item.Item.TheVariants as item
use Rattle.cat_items.specs.Reach.{Has}
use Rattle.cat_items.specs.Rights.{path_of, IsColumn}
use Rattle.edit_rules.specs.Names.{unknown_base_table, unknown_column}
use Rattle.table_parts.specs.Classes.{IsMisfit}
use Rattle.statement_steps.specs.Steps.{MakesEdit, Nothing, Steps, where_it_is}

-- the column of this name, whose type the default doesn't fit
abbrev pub IsMisfitColumn : Object → NameBytes → Option Default → Item → Type 0
IsMisfitColumn table name default (item.Column x) = IsColumn (path_of table) name (item.Column x) × IsMisfit default x.sort
IsMisfitColumn table name default x = ⊥

-- the column of this name of the catalogue
abbrev pub IsStanding : List Item → Object → NameBytes → Column → Type 0
IsStanding c table name x = Contains c (item.Column x) × IsColumn (path_of table) name (item.Column x)

-- the column with this default, and else as it was: its place stays
abbrev pub IsWithDefault : List Item → Object → NameBytes → Option Default → Item → Type 0
IsWithDefault c table name default (item.Column x) = (old : Column) × IsStanding c table name old × (x ≡ record old { default = default })
IsWithDefault c table name default x = ⊥

abbrev pub MakesDefault : List Item → Object → NameBytes → Option Default → Edit → Type 0
MakesDefault c table name default edit = MakesEdit c (IsColumn (path_of table) name) Nothing (IsWithDefault c table name default) edit

-- DROP DEFAULT leaves none
abbrev pub changing_default : List Item → Object → NameBytes → Option Default → Steps
changing_default c table name default = record {
  by_tree = [];
  names = unknown_base_table c table ∷ unknown_column c table name ∷ [];
  schema = table.schema;
  taken = [];
  rules = where_it_is (Has c (IsMisfitColumn table name default)) TypeMismatch ∷ [];
  needs = λ need. ⊥;
  edit = MakesDefault c table name default;
}
