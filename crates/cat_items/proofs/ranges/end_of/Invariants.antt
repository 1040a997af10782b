use Rattle.std.proofs.Common.{◌≤◌, ◌-◌, length}
use Rattle.cat_items.proofs.RangeLemmas.{AreWithin}
use Rattle.cat_items.proofs.ranges.end_of.Given as goal

abbrev pub invariant-loop-end : goal.invariant-loop-end
invariant-loop-end l = record {
  from : l.start ≤ l.end;
  low : l.end ≤ length l.items;
  within : AreWithin l.part l.items l.start l.end;
}

abbrev pub decreases-loop-end : goal.decreases-loop-end
decreases-loop-end l = length l.items - l.end
