-- How rows are written.
use Rattle.std.specs.Prelude.{◌==◌, if◌then◌else◌, ℕ, List, [], ◌∷◌, ◌++◌, decimal, flat_map}
use Rattle.cat_items.specs.declared.row.Cell.{Cell}
use Rattle.cat_items.specs.declared.row.Cell.TheVariants.{Null, Number, Words}

-- in a text a backslash, a tab, a line feed and a carriage return stand as two bytes: `\\`, `\t`, `\n`, `\r`
abbrev pub escaped : ℕ → List ℕ
escaped c = if c == 92 then 92 ∷ 92 ∷ [] else (if c == 9 then 92 ∷ 116 ∷ [] else (if c == 10 then 92 ∷ 110 ∷ [] else (if c == 13 then 92 ∷ 114 ∷ [] else c ∷ [])))

-- null is `\N`, a number is decimal
abbrev pub cell_text : Cell → List ℕ
cell_text Null = 92 ∷ 78 ∷ []
cell_text (Number n) = decimal n
cell_text (Words text) = flat_map escaped text

-- a value behind a tab
abbrev pub further_text : Cell → List ℕ
further_text cell = 9 ∷ cell_text cell

-- values with tabs between them
abbrev pub cells_text : List Cell → List ℕ
cells_text [] = []
cells_text (cell ∷ cells) = cell_text cell ++ flat_map further_text cells

-- the line of a row
abbrev pub row_text : List Cell → List ℕ
row_text row = cells_text row ++ 10 ∷ []

-- the lines of rows, one after the other
abbrev pub rows_text : List (List Cell) → List ℕ
rows_text rows = flat_map row_text rows
