use Rattle.std.proofs.Common.{◌≡◌, ◌≤◌, drop, length, map}
use Rattle.std.specs.List.{All}
use Rattle.item_index.specs.Graphs.{IsNode}
use Rattle.item_index.specs.Undo.{linked_all}
use Rattle.graph_changes.specs.Ends.{ArePlaced, link_of}
use Rattle.graph_changes.proofs.ends.link_ends.Given as goal

-- what is left to be done leads to the same graph
abbrev pub invariant-loop-node : goal.invariant-loop-node
invariant-loop-node g l = record {
  after : linked_all l.index (map (link_of l.given) (drop l.node-index l.links)) ≡ linked_all l.fn.index (map (link_of l.given) l.links);
  placed : All (ArePlaced (length l.given)) (drop l.node-index l.links);
  ends : All (λ link. IsNode l.index link.0 × IsNode l.index link.1) (map (link_of l.given) (drop l.node-index l.links));
  room : length (drop l.node-index l.links) ≤ l.index.spare_links;
}
