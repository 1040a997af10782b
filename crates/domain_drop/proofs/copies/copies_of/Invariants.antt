use Rattle.std.proofs.Common.{[], take}
use Rattle.domain_drop.specs.CheckCopies.{AddsCopies, pairs_of}
use Rattle.domain_drop.proofs.copies.copies_of.Given as goal

abbrev pub invariant-loop-x : goal.invariant-loop-x
invariant-loop-x l = record { adds : AddsCopies l.c.items (pairs_of (take l.x-index l.columns) l.checks) [] l.copies }
