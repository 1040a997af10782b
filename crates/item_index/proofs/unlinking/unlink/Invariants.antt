use Rattle.std.proofs.Common.{length}
use Rattle.item_index.specs.Shelves.{list_at}
use Rattle.item_index.proofs.Mirrors.{IsUnlinking}
use Rattle.item_index.proofs.unlinking.unlink.Given as goal

abbrev pub invariant-loop-other : goal.invariant-loop-other
invariant-loop-other l = IsUnlinking l.node l.initial.ends l.initial.back l.ends l.back

abbrev pub decreases-loop-other : goal.decreases-loop-other
decreases-loop-other l = length (list_at l.ends.lists l.node)
