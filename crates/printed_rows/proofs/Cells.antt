-- The first value of a row, and those behind it.
use Rattle.std.proofs.Common.{◌≡◌, ◌≤◌, ◌-◌, ◌++◌, ◌∷◌, [], List, length, take, drop, get_or, flat_map, ap₂, arith}
use Rattle.std.proofs.lemmas.List.{take_rest}
use Rattle.cat_items.specs.declared.row.Cell.{Cell}
use Rattle.printed_rows.specs.RowTexts.{cell_text, cells_text, further_text}

pub first_and_rest : (cells : List Cell) (x : Cell) → 1 ≤ length cells → x ≡ get_or cells 0 x → cell_text x ++ flat_map further_text (take (length cells - 1) (drop 1 cells)) ≡ cells_text cells
first_and_rest [] x some is = absurd (omega (arith, some))
first_and_rest (y ∷ rest) x some is = ap₂ (λ a b. cell_text a ++ flat_map further_text b) is (take_rest (y ∷ rest) 1)
