-- How the tables of the Definition Schema are written.
use Rattle.std.specs.Prelude.{ℕ, List, [], ◌∷◌, ◌++◌, codes, decimal, flat_map, length}
use Rattle.printed_rows.specs.RowTexts.{rows_text}
use Rattle.schema_tables.specs.declared.names.SchemaTable.{SchemaTable}
use Rattle.schema_tables.specs.Cells.{Row}
use Rattle.definition_schema.specs.declared.rows.DefTable.{DefTable}
use Rattle.definition_schema.specs.Tables.{definition_names}

-- a number behind a space, and the end of the line
abbrev pub count_text : ℕ → List ℕ
count_text n = 32 ∷ decimal n ++ 10 ∷ []

-- the line of a table: its name, and how many rows it has
abbrev pub head_text : List ℕ → ℕ → List ℕ
head_text name n = codes "TABLE " ++ name ++ count_text n

-- that line, and the lines of the rows
abbrev pub table_text : List ℕ → List Row → List ℕ
table_text name rows = head_text name (length rows) ++ rows_text rows

abbrev pub tables_text : List DefTable → List ℕ
tables_text tables = flat_map (λ table. table_text table.name table.rows.items) tables

-- all tables, in their order
unfoldable pub definition_text : (SchemaTable → List Row) → List ℕ
definition_text rows = flat_map (λ entry. table_text entry.1 (rows entry.0)) definition_names
