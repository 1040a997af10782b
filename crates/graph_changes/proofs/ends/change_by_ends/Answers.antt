use Rattle.std.proofs.Common.{ℕ, List, length, map, subst, sym, ap, ◌∙◌, arith}
use Rattle.std.specs.List.{All}
use Rattle.std.proofs.lemmas.List.{length-map}
use Rattle.item_index.specs.Graphs.{Graph}
use Rattle.item_index.specs.Undo.{inserted_all, numbers_given, removed_all}
use Rattle.graph_changes.specs.Ends.{ArePlaced, link_of, links_of}
use Rattle.graph_changes.proofs.Noting.{length-given, noted}
use Rattle.graph_changes.proofs.Turning.{HasEnds, links_room, new_ends}
use Rattle.graph_changes.proofs.ends.change_by_ends.Goals as goal

pub link_ends-requires-clause-placed : goal.link_ends-requires-clause-placed
link_ends-requires-clause-placed g c =
    let less = removed_all c.args.index.now c.args.out.now in
    let keys = c.args.keys.items in
    let given = c.as_slice.ensures.value ∙ noted c.remove_all.new.index less keys c.clear.new.self.items c.insert_noting.new.numbers.items c.remove_all.ensures c.clear.ensures.items c.insert_noting.ensures.numbers in
    let count = ap length given ∙ length-given less keys in
    subst (λ (n : ℕ). All (ArePlaced n) c.args.links.now) (sym count) c.requires.placed

pub link_ends-requires-clause-ends : goal.link_ends-requires-clause-ends
link_ends-requires-clause-ends g c =
    let less = removed_all c.args.index.now c.args.out.now in
    let keys = c.args.keys.items in
    let links = c.args.links.now in
    let given = c.as_slice.ensures.value ∙ noted c.remove_all.new.index less keys c.clear.new.self.items c.insert_noting.new.numbers.items c.remove_all.ensures c.clear.ensures.items c.insert_noting.ensures.numbers in
    let is = c.insert_noting.ensures.index ∙ ap (λ (h : Graph g.row.K.Denot). inserted_all h keys) c.remove_all.ensures in
    let ends = new_ends c.args.index.now c.args.out.now keys (links_of c.args.index.now c.args.out.now keys links) c.requires.change.linked in
    subst (λ (ns : List ℕ). All (HasEnds c.insert_noting.new.index) (map (link_of ns) links)) (sym given)
    (subst (λ (h : Graph g.row.K.Denot). All (HasEnds h) (links_of c.args.index.now c.args.out.now keys links)) (sym is) ends)

pub link_ends-requires-clause-room : goal.link_ends-requires-clause-room
link_ends-requires-clause-room g c =
    let out = c.args.out.now in
    let keys = c.args.keys.items in
    let is = c.insert_noting.ensures.index ∙ ap (λ (h : Graph g.row.K.Denot). inserted_all h keys) c.remove_all.ensures in
    let same = ap (λ (h : Graph g.row.K.Denot). h.spare_links) is in
    let left = links_room (removed_all c.args.index.now out) keys in
    let fit = c.requires.change.room.links_fit in
    let count = length-map c.args.links.now (link_of (numbers_given (removed_all c.args.index.now out) keys)) in
    omega (arith, same, left, fit, count)
