use Rattle.std.proofs.Common.{take}
use Rattle.std.specs.List.{flat_map}
use Rattle.domain_drop.specs.CheckCopies.{AddsCopies, pairs_with}
use Rattle.domain_drop.proofs.copies.copies_for_column.Given as goal

abbrev pub invariant-loop-x : goal.invariant-loop-x
invariant-loop-x l = record { adds : AddsCopies l.c.items (flat_map (pairs_with l.column) (take l.x-index l.checks)) l.initial.copies l.copies }
