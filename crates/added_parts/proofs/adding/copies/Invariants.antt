use Rattle.std.proofs.Common.{◌≡◌, take}
use Rattle.added_parts.proofs.adding.copies.Given as goal

abbrev pub invariant-loop-x : goal.invariant-loop-x
invariant-loop-x l = record { copied : l.copies.items ≡ take l.x-index l.items }
