use Rattle.std.proofs.Common.{◌≡◌, ◌<◌, ℕ, List, sym, subst, ◌∙◌, take, get_or, length, arith}
use Rattle.std.proofs.lemmas.List.{take_all}
use Rattle.cat_items.specs.declared.item.Item.{Item}
use Rattle.role_graph.specs.Roles.{IsRoomFor}
use Rattle.schema_tables.specs.Shown.{Shown}
use Rattle.shown_items.specs.Faces.{AddsRows, shown_to, IsFace}
use Rattle.shown_items.specs.Viewers.{viewer_of}
use Rattle.shown_items.proofs.Adding.{Among, among_more, added_alike, two_added}
use Rattle.shown_items.proofs.rows.put_all.Goals as goal

pub loop-at-preserved : goal.loop-at-preserved
loop-at-preserved c =
    let items : List Item = c.items-items.result.now in
    let face : Item → Shown → Type 0 = IsFace c.args.sight.c.now.items (viewer_of c.args.sight.viewer) in
    let x : Item = c.index-items-at.result in
    let i : ℕ = c.loop-at.at in
    let within : i < length items = omega arith in (
      subst (λ w. IsRoomFor w c.args.sight.c.now.items) (sym c.put_item.ensures.room) c.loop-at.invariant.0,
      added_alike (shown_to c.args.sight) c.args.sight.table c.args.out.now.items c.put_item.new.out.items _ _ (among_more items face i x within)
          (two_added (shown_to c.args.sight) c.args.sight.table (Among (take i items) face) (face (get_or items i x)) c.args.out.now.items c.loop-at.out.items c.put_item.new.out.items
          (Among (take i items) face) (face x) (λ s. (λ h. h, λ h. h))
          (λ s. (λ h. subst (λ y. face y s) c.index-items-at.is h, λ h. subst (λ y. face y s) (sym c.index-items-at.is) h))
          c.loop-at.invariant.1 c.in_ok-put_item.ensures.rows),
    )

pub returns : goal.returns
returns c =
    let items : List Item = c.items-items.result.now in
    let all : take c.loop-at.at items ≡ c.args.sight.c.now.items = take_all c.loop-at.at items (omega arith) ∙ c.items-items.ensures.items in
    subst (λ l. AddsRows (shown_to c.args.sight) (Among l (IsFace c.args.sight.c.now.items (viewer_of c.args.sight.viewer))) c.args.sight.table c.args.out.now.items c.loop-at.out.items) all c.loop-at.invariant.1
