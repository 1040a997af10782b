use Rattle.std.proofs.Common.{◌≡◌, ◌++◌, take}
use Rattle.table_additions.proofs.adding.push_all.Given as goal

abbrev pub invariant-loop-column : goal.invariant-loop-column
invariant-loop-column l = record { put : l.columns ≡ l.initial.columns ++ take l.column-index l.more }
