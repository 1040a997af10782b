use Rattle.item_index.proofs.Packing.{ArePacked}
use Rattle.item_index.proofs.spans.repack.Given as goal

abbrev pub invariant-loop-i : goal.invariant-loop-i
invariant-loop-i l = ArePacked l.from l.to l.initial.spans l.spans l.top l.i l.grown
