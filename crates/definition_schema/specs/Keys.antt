-- Constraints over lists of rows: keys, references from table to table, ordinal positions.
use Rattle.std.specs.Prelude.{◌≡◌, ◌≢◌, ◌≤◌, ◌↔◌, ℕ, List, [], ◌∷◌, ◌++◌, Option, Some, map, slice_get}
use Rattle.std.specs.List.{Contains}
use Rattle.sql_names.specs.declared.object.Object.{Object}
use Rattle.cat_items.specs.declared.row.Cell.{Cell}
use Rattle.cat_items.specs.declared.row.Cell.TheVariants.{Number, Words}
use Rattle.schema_tables.specs.Cells.{Row}

-- the values of a row in some columns, which are numbered from 0
abbrev pub values : List ℕ → Row → List (Option Cell)
values columns row = map (slice_get row) columns

-- some row of a list is so
abbrev pub HasSome : List Row → (Row → Type 0) → Type 0
HasSome rows P = (row : Row) × Contains rows row × P row

-- the rows are told apart by these columns
abbrev pub IsKey : List Row → List ℕ → Type 0
IsKey rows columns = (a b : Row) → Contains rows a → Contains rows b → values columns a ≡ values columns b → a ≡ b

-- each row that is so has in these columns the values that some row of the other list has in those
abbrev pub Refers : List Row → (Row → Type 0) → List ℕ → List Row → (Row → Type 0) → List ℕ → Type 0
Refers rows P columns others Q others_columns = (a : Row) → Contains rows a → P a → HasSome others (λ b. Q b × (values columns a ≡ values others_columns b))

abbrev pub Any : Row → Type 0
Any row = Unit {0}

-- the row has this text in this column
abbrev pub Is : ℕ → List ℕ → Row → Type 0
Is column text row = slice_get row column ≡ Some (Words text)

-- no row of one list has in these columns the values of a row of the other list
abbrev pub AreApart : List Row → List ℕ → List Row → List ℕ → Type 0
AreApart rows columns others others_columns = (a b : Row) → Contains rows a → Contains others b → values columns a ≢ values others_columns b

-- the values of an object's name in two columns
abbrev pub owner : Object → List (Option Cell)
owner o = Some (Words o.schema) ∷ Some (Words o.name) ∷ []

-- a row of the same owner at this position
abbrev pub IsAt : List ℕ → ℕ → List (Option Cell) → ℕ → Row → Type 0
IsAt columns position owner n row = (values columns row ≡ owner) × (slice_get row position ≡ Some (Number n))

-- the positions of the rows that have the same values in some columns are 1 to n, each once
pub record HavePositions (rows : List Row) (columns : List ℕ) (position : ℕ) : Type 0 where
  pub once : IsKey rows (columns ++ position ∷ [])
  pub run : (a : Row) → Contains rows a → (n : ℕ) × ((k : ℕ) → HasSome rows (IsAt columns position (values columns a) k) ↔ ((1 ≤ k) × (k ≤ n)))
