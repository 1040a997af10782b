use Rattle.std.proofs.Common.{◌≡◌, take}
use Rattle.table_work.proofs.keys.share_keys.Given as goal

abbrev pub invariant-loop-key : goal.invariant-loop-key
invariant-loop-key l = record { copies : l.copy ≡ take l.key-index l.keys }
