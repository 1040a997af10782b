use Rattle.std.proofs.Common.{◌≡◌, take}
use Rattle.catalogue_changes.proofs.parts.copies.Given as goal

abbrev pub invariant-loop-x : goal.invariant-loop-x
invariant-loop-x l = record { copied : l.copies.items ≡ take l.x-index l.items }
