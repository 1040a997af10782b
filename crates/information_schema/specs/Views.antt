-- The views of the Information Schema and their columns, as the code has them in its table.
use Rattle.std.specs.Prelude.{cond, ℕ, ◌+◌, List, [], ◌∷◌, Option, Some, None, map, bytes_eq}
use Rattle.std.specs.Borrow.{Bor}
use Rattle.sql_names.specs.NameBytes.{NameBytes}
use Rattle.schema_tables.specs.declared.names.SchemaTable.{SchemaTable}
use Rattle.schema_tables.specs.declared.names.Sort.{Sort}
use Rattle.schema_tables.specs.declared.names.TheConstants.{VIEWS}
use Rattle.information_schema.specs.declared.views.View as lent

-- a column, by its name, and whether it has texts or numbers
abbrev pub Column : Type 0
Column = NameBytes × Sort

abbrev pub columns_of : List (Bor (List ℕ) × Sort) → List Column
columns_of columns = map (λ x. (x.0.now, x.1)) columns

-- a view: the table that it shows, and its columns
pub record View : Type 0 where
  pub table : SchemaTable
  pub columns : List Column

abbrev pub view_of : lent.View → View
view_of v = record { table = v.table; columns = columns_of v.columns.now }

-- a view with its name
abbrev pub Entry : Type 0
Entry = SchemaTable × NameBytes × List Column

-- what a slice of the table stands for
abbrev pub entries_of : List (SchemaTable × Bor (List ℕ) × Bor (List (Bor (List ℕ) × Sort))) → List Entry
entries_of views = map (λ x. (x.0, x.1.now, columns_of x.2.now)) views

-- all views
unfoldable pub views : List Entry
views = map (λ x. (x.0, x.1.now, map (λ y. (y.0.now, y.1)) x.2.now)) VIEWS

-- the first view of this name
abbrev pub view_in : List Entry → NameBytes → Option View
view_in [] name = None
view_in (x ∷ xs) name = cond (bytes_eq x.1 name) (Some (record { table = x.0; columns = x.2 })) (view_in xs name)

abbrev pub view_named : NameBytes → Option View
view_named name = view_in views name

-- the number of the first column of this name, from n, and what it has
abbrev pub column_from : ℕ → List Column → NameBytes → Option (ℕ × Sort)
column_from n [] name = None
column_from n (x ∷ xs) name = cond (bytes_eq x.0 name) (Some (n, x.1)) (column_from (n + 1) xs name)

abbrev pub column_named : List Column → NameBytes → Option (ℕ × Sort)
column_named columns name = column_from 0 columns name
