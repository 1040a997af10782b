use Rattle.std.proofs.Common.{drop}
use Rattle.tree_needs.specs.Ordered.{AreInOrder}
use Rattle.tree_needs.proofs.NeedMembers.{Leads}
use Rattle.tree_needs.proofs.needs.needs_of_mentions.Given as goal

abbrev pub invariant-loop-one : goal.invariant-loop-one
invariant-loop-one l = record {
  order : AreInOrder l.needs.items;
  members : Leads l.reading l.needs.items (drop l.one-index l.all) l.all;
}
