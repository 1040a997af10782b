use Rattle.std.proofs.Common.{◌≡◌, take}
use Rattle.revoke_cascade.proofs.board.adding.Given as goal

abbrev pub invariant-loop-x : goal.invariant-loop-x
invariant-loop-x l = record { copied : l.added.items ≡ take l.x-index l.c.items }
