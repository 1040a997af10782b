-- DROP CONSTRAINT of a table: its refusals in order, and what it takes (drop table constraint definition, SQL:2003 part 2, 11.20).
use Rattle.std.specs.Prelude.{◌≡◌, List, [], ◌∷◌}
use Rattle.sql_names.specs.NameBytes.{NameBytes}
use Rattle.sql_names.specs.declared.object.Object.{Object}
use Rattle.cat_items.specs.declared.edit.Edit.{Edit}
use Rattle.cat_items.specs.declared.edit.Refusal.{Refusal}
use Rattle.cat_items.specs.declared.edit.Refusal.TheVariants.{UnknownName}
use Rattle.cat_items.specs.declared.item.Item.{Item}
use Rattle.cat_items.specs.declared.item.Item.TheVariants as item
use Rattle.cat_items.specs.declared.ranges.Part.{Part}
use Rattle.cat_items.specs.Reach.{Has}
use Rattle.cat_items.specs.Rights.{path_of}
use Rattle.edit_rules.specs.Names.{unknown_base_table}
use Rattle.chosen_parts.specs.Parts.{LiesIn}
use Rattle.statement_steps.specs.Steps.{MakesEdit, Nothing, Steps, where_it_is}

-- a constraint is in the schema of its table
abbrev pub in_schema_of : Object → NameBytes → Object
in_schema_of table name = record { schema = table.schema; name = name }

-- the constraint of this table and name: a constraint of another table and a domain's are none
abbrev pub IsConstraintOf : Object → NameBytes → Item → Type 0
IsConstraintOf table name (item.Key k) = (k.table ≡ table) × (k.name ≡ in_schema_of table name)
IsConstraintOf table name (item.Foreign f) = (f.table ≡ table) × (f.name ≡ in_schema_of table name)
IsConstraintOf table name (item.Check x) = (x.table ≡ table) × (x.name ≡ in_schema_of table name)
IsConstraintOf table name x = ⊥

-- the constraint of this table and name is in one of these parts
abbrev pub HoldConstraint : Object → NameBytes → List Part → Type 0
HoldConstraint table name parts = (x : Item) → IsConstraintOf table name x → LiesIn parts x

-- the table has no constraint of this name
abbrev pub unknown_constraint : List Item → Object → NameBytes → Refusal → Type 0
unknown_constraint c table name = where_it_is (¬ (Has c (IsConstraintOf table name))) (UnknownName (path_of (in_schema_of table name)))

abbrev pub MakesConstraintDrop : List Item → Object → NameBytes → Edit → Type 0
MakesConstraintDrop c table name edit = MakesEdit c (IsConstraintOf table name) Nothing Nothing edit

abbrev pub dropping_constraint : List Item → Object → NameBytes → Steps
dropping_constraint c table name = record {
  by_tree = [];
  names = unknown_base_table c table ∷ unknown_constraint c table name ∷ [];
  schema = table.schema;
  taken = [];
  rules = [];
  needs = λ need. ⊥;
  edit = MakesConstraintDrop c table name;
}
