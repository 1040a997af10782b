use Rattle.std.proofs.Common.{◌≡◌, take}
use Rattle.table_work.proofs.keys.copy_names.Given as goal

abbrev pub invariant-loop-name : goal.invariant-loop-name
invariant-loop-name l = record { copies : l.copies ≡ take l.name-index l.names }
