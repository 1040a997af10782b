use Rattle.std.proofs.Common.{◌+◌, drop, length, get_or, map, sym, ap, ◌∙◌, subst, arith}
use Rattle.std.specs.List.{All}
use Rattle.std.proofs.lemmas.List.Elements.{All-tail}
use Rattle.item_index.specs.Graphs.{Graph, IsNode}
use Rattle.graph_changes.specs.declared.ends.End.TheVariants.{Stays}
use Rattle.graph_changes.specs.Ends.{ArePlaced, link_of}
use Rattle.graph_changes.proofs.Noting.{ends_more, linked_more}
use Rattle.graph_changes.proofs.Turning.{ends_first, opened}
use Rattle.graph_changes.proofs.ends.link_ends.Goals as goal

pub link-requires-clause-node : goal.link-requires-clause-node
link-requires-clause-node g c =
    let links = c.args.links.now in
    let i = c.loop-node.node-index in
    let by = link_of c.args.given.now in
    let here = ap (map by) (opened links i (Stays 0, Stays 0) c.loop-node-test.true) in
    let ends = ends_first c.loop-node.index (map by (drop i links)) _ _ here c.loop-node.invariant.ends in
    subst (IsNode c.loop-node.index) (sym c.number_of-node.ensures) ends.0

pub link-requires-clause-rests_on : goal.link-requires-clause-rests_on
link-requires-clause-rests_on g c =
    let links = c.args.links.now in
    let i = c.loop-node.node-index in
    let by = link_of c.args.given.now in
    let here = ap (map by) (opened links i (Stays 0, Stays 0) c.loop-node-test.true) in
    let ends = ends_first c.loop-node.index (map by (drop i links)) _ _ here c.loop-node.invariant.ends in
    subst (IsNode c.loop-node.index) (sym c.number_of-rests_on.ensures) ends.1

pub loop-node-preserved : goal.loop-node-preserved
loop-node-preserved g c =
    let links = c.args.links.now in
    let given = c.args.given.now in
    let i = c.loop-node.node-index in
    let by = link_of given in
    let l = get_or links i (Stays 0, Stays 0) in
    let here = opened links i (Stays 0, Stays 0) c.loop-node-test.true in
    let size = ap length here in
    let room = c.loop-node.invariant.room in
    let from = c.number_of-node.ensures in
    let to = c.number_of-rests_on.ensures in
    let less = ap (λ (h : Graph g.row.K.Denot). h.spare_links) c.link.ensures.graph in
    record {
      after = linked_more c.loop-node.index c.link.new.self given (drop i links) _ l.0 l.1 c.number_of-node.result c.number_of-rests_on.result here from to c.link.ensures.graph ∙ c.loop-node.invariant.after;
      placed = All-tail (ArePlaced (length given)) l (drop (i + 1) links) (subst (All (ArePlaced (length given))) here c.loop-node.invariant.placed);
      ends = ends_more c.loop-node.index c.link.new.self given (drop i links) _ l.0 l.1 c.number_of-node.result c.number_of-rests_on.result here from to c.link.ensures.graph c.loop-node.invariant.ends;
      room = omega (arith, size, room, less);
    }
