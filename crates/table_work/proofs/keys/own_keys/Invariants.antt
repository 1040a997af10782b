use Rattle.std.proofs.Common.{◌≡◌, take}
use Rattle.table_work.specs.Keys.{own_keys}
use Rattle.table_work.proofs.keys.own_keys.Given as goal

abbrev pub invariant-loop-constraint : goal.invariant-loop-constraint
invariant-loop-constraint l = record { own : l.own ≡ own_keys l.table (take l.constraint-index l.named) }
