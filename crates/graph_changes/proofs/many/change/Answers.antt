use Rattle.std.proofs.Common.{subst, sym, ap, ◌∙◌, arith}
use Rattle.std.specs.List.{All}
use Rattle.item_index.specs.Graphs.{Graph}
use Rattle.item_index.specs.Undo.{inserted_all, removed_all}
use Rattle.graph_changes.proofs.Turning.{HasEnds, links_room, new_ends}
use Rattle.graph_changes.proofs.many.change.Goals as goal

pub link_all-requires-clause-ends : goal.link_all-requires-clause-ends
link_all-requires-clause-ends g c =
    let out = c.args.out.now in
    let keys = c.args.keys.items in
    let is = c.insert_all.ensures ∙ ap (λ (h : Graph g.row.K.Denot). inserted_all h keys) c.remove_all.ensures in
    subst (λ (h : Graph g.row.K.Denot). All (HasEnds h) c.args.links.now) (sym is) (new_ends c.args.index.now out keys c.args.links.now c.requires.linked)

pub link_all-requires-clause-room : goal.link_all-requires-clause-room
link_all-requires-clause-room g c =
    let out = c.args.out.now in
    let keys = c.args.keys.items in
    let is = c.insert_all.ensures ∙ ap (λ (h : Graph g.row.K.Denot). inserted_all h keys) c.remove_all.ensures in
    let same = ap (λ (h : Graph g.row.K.Denot). h.spare_links) is in
    let left = links_room (removed_all c.args.index.now out) keys in
    let fit = c.requires.room.links_fit in
    omega (arith, same, left, fit)
