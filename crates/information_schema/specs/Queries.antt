-- What a SELECT from a view of the Information Schema asks for. Its refusals depend on the query alone.
use Rattle.std.specs.Prelude.{ℕ, ◌+◌, ◌-◌, ◌*◌, Bool, true, false, cond, nat_eq, ◌&&◌, List, [], ◌∷◌, Option, Some, None, is_some, map, filter, slice_index_or, bytes_eq, codes}
use Rattle.std.specs.List.{list_all}
use Rattle.sql_names.specs.NameBytes.{NameBytes}
use Rattle.sql_tree.specs.declared.statement.InfoColumns.{InfoColumns}
use Rattle.sql_tree.specs.declared.statement.InfoColumns.TheVariants as asked
use Rattle.sql_tree.specs.declared.statement.InfoQuery.{InfoQuery}
use Rattle.sql_tree.specs.declared.statement.InfoTest.{InfoTest}
use Rattle.sql_tree.specs.declared.statement.InfoTest.TheVariants.{Equals, IsNull}
use Rattle.sql_tree.specs.declared.statement.InfoValue.{InfoValue}
use Rattle.sql_tree.specs.declared.statement.InfoValue.TheVariants as values
use Rattle.cat_items.specs.declared.row.Cell.{Cell}
use Rattle.cat_items.specs.declared.row.Cell.TheVariants.{Null, Number, Words}
use Rattle.schema_tables.specs.Cells.{Row}
use Rattle.schema_tables.specs.declared.names.Sort.{Sort}
use Rattle.schema_tables.specs.declared.names.Sort.TheVariants as sorts
use Rattle.information_schema.specs.Views.{Column, View, view_named, column_named}
use Rattle.information_schema.specs.declared.answers.InfoError.{InfoError}
use Rattle.information_schema.specs.declared.answers.InfoError.TheVariants.{UnknownName, TypeMismatch}

-- ---- refusals

abbrev pub information_schema : NameBytes
information_schema = codes "INFORMATION_SCHEMA"

-- the first of these names that no column has
abbrev pub unknown_column : NameBytes → List Column → List NameBytes → Option InfoError
unknown_column view columns [] = None
unknown_column view columns (name ∷ names) = cond (is_some (column_named columns name)) (unknown_column view columns names) (Some (UnknownName (information_schema ∷ view ∷ name ∷ [])))

-- the columns that are named, before those of the tests
abbrev pub chosen_names : InfoColumns → List NameBytes
chosen_names asked.All = []
chosen_names (asked.Named names) = names

abbrev pub tested_name : InfoTest → NameBytes
tested_name (Equals name value) = name
tested_name (IsNull name) = name

-- texts are compared with literals, numbers with numbers
abbrev pub fits_sort : Option (ℕ × Sort) → InfoValue → Bool
fits_sort (Some (n, sorts.Text)) (values.Literal text) = true
fits_sort (Some (n, sorts.Number)) (values.Number text) = true
fits_sort column value = false

abbrev pub is_proper : List Column → InfoTest → Bool
is_proper columns (Equals name value) = fits_sort (column_named columns name) value
is_proper columns (IsNull name) = true

abbrev pub mismatch : List Column → List InfoTest → Option InfoError
mismatch columns [] = None
mismatch columns (test ∷ tests) = cond (is_proper columns test) (mismatch columns tests) (Some TypeMismatch)

-- the first of two
abbrev pub or_else : Option InfoError → Option InfoError → Option InfoError
or_else None b = b
or_else (Some e) b = Some e

-- the columns that are chosen, those that are tested, and then a test of the wrong sort
abbrev pub refusal_of : List Column → InfoQuery → Option InfoError
refusal_of columns q = or_else (unknown_column q.view columns (chosen_names q.columns)) (or_else (unknown_column q.view columns (map tested_name q.tests)) (mismatch columns q.tests))

abbrev pub refusal_in : Option View → InfoQuery → Option InfoError
refusal_in None q = Some (UnknownName (information_schema ∷ q.view ∷ []))
refusal_in (Some v) q = refusal_of v.columns q

-- the first refusal: the view comes first
abbrev pub refusal : InfoQuery → Option InfoError
refusal q = refusal_in (view_named q.view) q

-- ---- selection

-- what digits and other bytes write, behind those of n, up to a point
abbrev pub worth : ℕ → List ℕ → ℕ
worth n [] = n
worth n (b ∷ bs) = cond (nat_eq b 46) n (worth (10 * n + (b - 48)) bs)

-- what stands behind the point
abbrev pub fraction : List ℕ → List ℕ
fraction [] = []
fraction (b ∷ bs) = cond (nat_eq b 46) bs (fraction bs)

-- a number, as it is written, is this one: its whole part is, and there are only zeros behind the point
abbrev pub is_worth : List ℕ → ℕ → Bool
is_worth text n = nat_eq (worth 0 text) n && list_all (λ b. nat_eq b 48) (fraction text)

-- null fits nothing
abbrev pub fits : Cell → InfoValue → Bool
fits (Words text) (values.Literal literal) = bytes_eq text literal
fits (Number n) (values.Number text) = is_worth text n
fits cell value = false

abbrev pub is_null : Cell → Bool
is_null Null = true
is_null cell = false

abbrev pub value_at : Row → Option (ℕ × Sort) → Cell
value_at row None = Null
value_at row (Some (n, sort)) = slice_index_or row n Null

-- the value of a row in a column
abbrev pub value : List Column → Row → NameBytes → Cell
value columns row name = value_at row (column_named columns name)

abbrev pub passes : List Column → Row → InfoTest → Bool
passes columns row (Equals name wanted) = fits (value columns row name) wanted
passes columns row (IsNull name) = is_null (value columns row name)

abbrev pub passes_all : List Column → List InfoTest → Row → Bool
passes_all columns tests row = list_all (passes columns row) tests

abbrev pub chosen : List Column → InfoColumns → Row → Row
chosen columns asked.All row = row
chosen columns (asked.Named names) row = map (value columns row) names

-- the rows that pass each test, and of each the columns that are asked for
abbrev pub selected : List Column → InfoQuery → List Row → List Row
selected columns q rows = map (chosen columns q.columns) (filter (passes_all columns q.tests) rows)
