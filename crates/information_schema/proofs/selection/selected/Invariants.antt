use Rattle.std.proofs.Common.{◌≡◌, take}
use Rattle.information_schema.specs.Queries.{selected}
use Rattle.information_schema.specs.Views.{columns_of}
use Rattle.information_schema.proofs.selection.selected.Given as goal

-- what is selected of the rows so far
abbrev pub invariant-loop-row : goal.invariant-loop-row
invariant-loop-row l = l.out.items ≡ selected (columns_of l.columns) l.query (take l.row-index l.rows.items)
