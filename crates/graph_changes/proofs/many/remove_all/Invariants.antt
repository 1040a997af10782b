use Rattle.std.proofs.Common.{◌≡◌, List, drop}
use Rattle.item_index.specs.Undo.{HaveKeys, removed_all}
use Rattle.graph_changes.proofs.many.remove_all.Given as goal

-- what is left to be done leads to the same graph
abbrev pub invariant-loop-node : goal.invariant-loop-node
invariant-loop-node g l = record {
  after : removed_all l.index (drop l.node-index l.out) ≡ removed_all l.fn.index l.out;
  had : (old : List g.row.K.Denot) × HaveKeys l.index (drop l.node-index l.out) old;
}
