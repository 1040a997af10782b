-- The tables of the Definition Schema, each with its name and its rows.
use Rattle.std.specs.Prelude.{◌≡◌, ℕ, List, [], ◌∷◌, None, map}
use Rattle.std.specs.Borrow.{Bor}
use Rattle.cat_items.specs.declared.item.Item.{Item}
use Rattle.cat_items.specs.Good.{IsGood}
use Rattle.schema_tables.specs.declared.names.SchemaTable.{SchemaTable}
use Rattle.schema_tables.specs.declared.names.TheConstants.{DEFINITION}
use Rattle.schema_tables.specs.Cells.{Row}
use Rattle.schema_tables.specs.Listings.{AreRows}
use Rattle.schema_tables.specs.Sight.{IsShown}
use Rattle.schema_tables.specs.TableRows.{HasRow}
use Rattle.definition_schema.specs.declared.rows.DefTable.{DefTable}
use Rattle.definition_schema.specs.Constraints.{AllHold}
use Rattle.definition_schema.specs.Definition.{AreDefinitionRows}

-- a table of this name, with its rows
abbrev pub IsTableOf : List Item → SchemaTable → List ℕ → DefTable → Type 0
IsTableOf c which name table = (table.name ≡ name) × AreRows (HasRow (IsShown c None) which) table.rows.items

-- tables and their names, as references give them
abbrev pub names_of : List (SchemaTable × Bor (List ℕ)) → List (SchemaTable × List ℕ)
names_of entries = map (λ entry. (entry.0, entry.1.now)) entries

-- one for each name
abbrev pub AreTables : List Item → List (SchemaTable × List ℕ) → List DefTable → Type 0
AreTables c [] [] = Unit {0}
AreTables c (entry ∷ entries) (table ∷ tables) = IsTableOf c entry.0 entry.1 table × AreTables c entries tables
AreTables c entries tables = ⊥

-- the names of all tables, in their order
abbrev pub definition_names : List (SchemaTable × List ℕ)
definition_names = map (λ entry. (entry.0, entry.1.now)) DEFINITION

-- each table in its order, with its name and its rows; of a good catalogue all constraints hold of them
pub record IsDefinition (c : List Item) (tables : List DefTable) : Type 0 where
  pub rows : SchemaTable → List Row
  pub are : AreDefinitionRows c rows
  pub told : ◌≡◌ {A = List (List ℕ × List Row)} (map (λ table. (table.name, table.rows.items)) tables) (map (λ entry. (entry.1, rows entry.0)) definition_names)
  pub hold : IsGood c → AllHold rows
