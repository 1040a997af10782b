-- The privileges that columns and constraints of a table need (access rules, SQL:2003 part 2, 11.4, 11.8 and 11.9).
use Rattle.std.specs.Prelude.{◌≡◌, ◌⊎◌, List, Some}
use Rattle.std.specs.List.{Any, Contains}
use Rattle.sql_names.specs.NameBytes.{NameBytes}
use Rattle.sql_names.specs.declared.object.Object.{Object}
use Rattle.sql_tree.specs.declared.table.ColumnType.{ColumnType}
use Rattle.sql_tree.specs.declared.table.ColumnType.TheVariants as bases
use Rattle.cat_items.specs.declared.edit.Who.{Who}
use Rattle.cat_items.specs.declared.item.Item.{Item}
use Rattle.cat_items.specs.declared.item.Item.TheVariants as item
use Rattle.cat_items.specs.declared.need.Need.{Need}
use Rattle.cat_items.specs.Rights.{path_of, reference, usage}
use Rattle.edit_rules.specs.Names.{object_in}
use Rattle.table_parts.specs.declared.parts.Part.{Part}
use Rattle.table_parts.specs.declared.parts.Part.TheVariants as parts
use Rattle.table_parts.specs.Parts.{DefinesColumn}

-- a column that is based on a domain needs USAGE on it
abbrev pub IsBaseNeed : Who → ColumnType → Need → Type 0
IsBaseNeed who (bases.Type sort) need = ⊥
IsBaseNeed who (bases.Domain name) need = need ≡ usage (object_in who.schema name)

abbrev pub IsPartNeed : Who → Need → Part → Type 0
IsPartNeed who need (parts.Column d) = IsBaseNeed who d.sort need
IsPartNeed who need (parts.Constraint k) = ⊥

-- a foreign key needs REFERENCES on each column of its target, a check what its condition needs
abbrev pub IsConstraintNeed : Need → Item → Type 0
IsConstraintNeed need (item.Foreign f) = (name : NameBytes) × Contains f.target_columns name × (need ≡ reference f.target name)
IsConstraintNeed need (item.Check x) = Contains x.needs need
IsConstraintNeed need x = ⊥

-- a need on a column that the statement itself makes
abbrev pub IsOwnNeed : Object → List Part → Need → Type 0
IsOwnNeed table all need = (need.on ≡ path_of table) × ((name : NameBytes) × (need.column ≡ Some name) × Any (DefinesColumn name) all)

-- this one, where it isn't
abbrev pub IsAsked : Object → List Part → Need → Need → Type 0
IsAsked table all need one = (need ≡ one) × (¬ (IsOwnNeed table all one))

-- what the columns and the constraints that are made need, but for what is on columns that the statement itself makes
abbrev pub IsNeeded : Who → Object → List Part → (Item → Type 0) → Need → Type 0
IsNeeded who table all Made need = (Any (IsPartNeed who need) all ⊎ ((x : Item) × Made x × IsConstraintNeed need x)) × (¬ (IsOwnNeed table all need))
