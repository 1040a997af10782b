use Rattle.std.proofs.Common.{drop, length, refl, sym, ap, ◌∙◌, arith}
use Rattle.std.proofs.lemmas.List.{drop_all}
use Rattle.item_index.specs.Graphs.{Graph}
use Rattle.item_index.specs.Undo.{linked_all}
use Rattle.graph_changes.proofs.Turning.{ends_first, ends_rest, linked_next, opened}
use Rattle.graph_changes.proofs.many.link_all.Goals as goal

pub loop-node-init : goal.loop-node-init
loop-node-init g c = record { after = refl; ends = c.requires.ends; room = c.requires.room }

pub link-requires : goal.link-requires
link-requires g c =
    let links = c.args.links.now in
    let i = c.loop-node.node-index in
    let here = opened links i (0, 0) c.loop-node-test.true in
    let size = ap length here in
    let room = c.loop-node.invariant.room in
    let ends = ends_first c.loop-node.index (drop i links) _ _ here c.loop-node.invariant.ends in
    record { node = ends.0; rests_on = ends.1; room = omega (arith, size, room) }

pub loop-node-preserved : goal.loop-node-preserved
loop-node-preserved g c =
    let links = c.args.links.now in
    let i = c.loop-node.node-index in
    let here = opened links i (0, 0) c.loop-node-test.true in
    let size = ap length here in
    let room = c.loop-node.invariant.room in
    let less = ap (λ (h : Graph g.row.K.Denot). h.spare_links) c.link.ensures.graph in
    record {
      after = linked_next c.loop-node.index c.link.new.self (drop i links) _ _ here c.link.ensures.graph ∙ c.loop-node.invariant.after;
      ends = ends_rest c.loop-node.index c.link.new.self (drop i links) _ _ here c.link.ensures.graph c.loop-node.invariant.ends;
      room = omega (arith, size, room, less);
    }

pub returns : goal.returns
returns g c = sym (ap (linked_all c.loop-node.index) (drop_all c.loop-node.node-index c.args.links.now c.loop-node-test.false)) ∙ c.loop-node.invariant.after
