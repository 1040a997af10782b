use Rattle.std.proofs.Common.{◌≡◌, take}
use Rattle.std.specs.Prelude.{flat_map}
use Rattle.table_work.specs.Columns.{column_described}
use Rattle.table_work.proofs.described.columns_described.Given as goal

abbrev pub invariant-loop-part : goal.invariant-loop-part
invariant-loop-part l = record { columns : l.columns ≡ flat_map (column_described l.c.items l.who) (take l.part-index l.parts) }
