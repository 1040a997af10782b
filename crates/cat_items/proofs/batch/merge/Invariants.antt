use Rattle.cat_items.proofs.Merges.{Merging}
use Rattle.cat_items.proofs.batch.merge.Given as goal

abbrev pub invariant-loop-old : goal.invariant-loop-old
invariant-loop-old l = Merging l.items l.initial.items l.old l.end

abbrev pub decreases-loop-old : goal.decreases-loop-old
decreases-loop-old l = l.end
