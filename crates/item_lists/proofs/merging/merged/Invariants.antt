use Rattle.std.proofs.Common.{◌≤◌, drop, length, take}
use Rattle.item_lists.specs.Merges.{AreMerged}
use Rattle.item_lists.proofs.merging.merged.Given as goal

abbrev pub invariant-loop-next : goal.invariant-loop-next
invariant-loop-next l = record {
  from : l.from ≤ length l.items;
  merged : AreMerged (take l.from l.items) (drop l.from l.items) (take l.next l.more) (drop l.next l.more) l.all.items;
}
