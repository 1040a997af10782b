-- CREATE TABLE: its refusals in order, and what it adds (table definition, SQL:2003 part 2, 11.3).
use Rattle.std.specs.Prelude.{◌≡◌, List, [], ◌∷◌}
use Rattle.std.specs.List.{Contains}
use Rattle.sql_names.specs.declared.object.Object.{Object}
use Rattle.sql_tree.specs.declared.statement.CreateTable.{CreateTable}
use Rattle.cat_items.specs.declared.edit.Edit.{Edit}
use Rattle.cat_items.specs.declared.edit.Refusal.{Refusal}
use Rattle.cat_items.specs.declared.edit.Who.{Who}
use Rattle.cat_items.specs.declared.item.Column.{Column}
use Rattle.cat_items.specs.declared.item.Item.{Item}
use Rattle.cat_items.specs.declared.item.Item.TheVariants as item
use Rattle.cat_items.specs.declared.item.Key.{Key}
use Rattle.edit_rules.specs.First.{First}
use Rattle.edit_rules.specs.Names.{object_in, unknown_schema}
use Rattle.statement_steps.specs.Steps.{MakesEdit, Nothing, Steps, refusals_of}
use Rattle.table_parts.specs.declared.parts.Part.{Part}
use Rattle.table_parts.specs.Parts.{columns_of, parts_in}
use Rattle.table_names.specs.declared.named.NamedConstraint.{NamedConstraint}
use Rattle.table_names.specs.Named.{AreConstraints, for_constraints}
use Rattle.table_names.specs.Refusals.{repeated_name, taken_names}
use Rattle.table_work.specs.declared.work.Work.{Work}
use Rattle.table_work.specs.Columns.{columns_described, columns_from}
use Rattle.table_work.specs.Keys.{own_keys}
use Rattle.table_needs.specs.Needs.{IsNeeded}
use Rattle.table_types.specs.Types.{too_many_places}
use Rattle.table_elements.specs.Names.{unknown_in_parts}
use Rattle.table_constraints.specs.Made.{IsConstraintMade}
use Rattle.table_constraints.specs.Rules.{no_such_key, type_mismatch}

-- the table that is made, with its own columns and some of its own keys, also where a table of its name stands
abbrev pub work_with : List Item → Who → Object → List Part → List Key → Work
work_with c who table all keys = record { table = table; columns = columns_described c who all; keys = keys }

-- with all of its keys
abbrev pub work_of : List Item → Who → Object → List Part → List NamedConstraint → Work
work_of c who table all named = work_with c who table all (own_keys table named)

-- its columns, with places from 1 in reading order
abbrev pub new_columns : List Item → Who → Object → List Part → List Column
new_columns c who table all = columns_from c who table all 1 (columns_of all)

-- types, keys and places, by what the statement sees
abbrev pub rules_over : List Item → Who → Work → List Part → List NamedConstraint → List (Refusal → Type 0)
rules_over c who w all named = type_mismatch c who w all named ∷ no_such_key c who w named ∷ too_many_places 0 all ∷ []

abbrev pub new_rules : List Item → Who → Object → List Part → List NamedConstraint → List (Refusal → Type 0)
new_rules c who table all named = rules_over c who (work_of c who table all named) all named

abbrev pub IsNewConstraint : List Item → Who → Object → List Part → List NamedConstraint → Item → Type 0
IsNewConstraint c who table all named x = IsConstraintMade c who (work_of c who table all named) named x

-- the table, one of its columns, or one of its constraints
abbrev pub IsTableMade : List Item → Who → Object → List Part → List NamedConstraint → Item → Type 0
IsTableMade c who table all named (item.Table t) = t ≡ table
IsTableMade c who table all named (item.Column x) = Contains (new_columns c who table all) x
IsTableMade c who table all named x = IsNewConstraint c who table all named x

-- the table is added with its columns and its constraints, and nothing else is done
abbrev pub MakesTable : List Item → Who → Object → List Part → Edit → Type 0
MakesTable c who table all edit = (named : List NamedConstraint) × AreConstraints c table all named × MakesEdit c Nothing Nothing (IsTableMade c who table all named) edit

abbrev pub steps_of_table : List Item → Who → Object → List Part → Steps
steps_of_table c who table all = record {
  by_tree = repeated_name table all ∷ [];
  names = unknown_schema c table.schema ∷ unknown_in_parts c who (work_with c who table all []) all;
  schema = table.schema;
  taken = taken_names c table all;
  rules = for_constraints c table all (λ named. First (new_rules c who table all named)) ∷ [];
  needs = λ need. (named : List NamedConstraint) × AreConstraints c table all named × IsNeeded who table all (IsNewConstraint c who table all named) need;
  edit = MakesTable c who table all;
}

abbrev pub create_table_refusals : List Item → Who → CreateTable → List (Refusal → Type 0)
create_table_refusals c who s = refusals_of c who (steps_of_table c who (object_in who.schema s.table) (parts_in s.elements))

abbrev pub IsTableCreation : List Item → Who → CreateTable → Edit → Type 0
IsTableCreation c who s edit = MakesTable c who (object_in who.schema s.table) (parts_in s.elements) edit
