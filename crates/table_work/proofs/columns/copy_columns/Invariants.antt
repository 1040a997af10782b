use Rattle.std.proofs.Common.{◌≡◌, take}
use Rattle.table_work.proofs.columns.copy_columns.Given as goal

abbrev pub invariant-loop-column : goal.invariant-loop-column
invariant-loop-column l = record { copies : l.copy ≡ take l.column-index l.columns }
