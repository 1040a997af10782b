use Rattle.std.proofs.Common.{inl, inr, ℕ, List, sym, subst, take}
use Rattle.std.proofs.lemmas.List.{take_all}
use Rattle.sql_names.specs.NameBytes.{PathNames}
use Rattle.cat_items.specs.declared.item.Item.{Item}
use Rattle.role_graph.specs.Roles.{IsRoomFor}
use Rattle.schema_tables.specs.Shown.{Shown}
use Rattle.schema_tables.specs.Sight.{Viewer}
use Rattle.shown_items.specs.Candidates.{IsNearFace, PutsRows}
use Rattle.shown_items.specs.Faces.{shown_to, IsItemFace}
use Rattle.shown_items.specs.Viewers.{viewer_of}
use Rattle.shown_items.proofs.Adding.{Among, among_more}
use Rattle.shown_items.proofs.Puts.{puts_alike, both_put}
use Rattle.shown_items.proofs.candidates.put_candidates.Goals as goal

pub loop-on-preserved : goal.loop-on-preserved
loop-on-preserved c =
    let items : List Item = c.args.sight.c.now.items in
    let v : Viewer = viewer_of c.args.sight.viewer in
    let own : List PathNames = c.args.own.now in
    let near : PathNames → Shown → Type 0 = λ y s. IsNearFace y items v s in
    let on : PathNames = c.on-item.result in
    let i : ℕ = c.loop-on.on-index in (
      subst (λ w. IsRoomFor w items) (sym c.put_near.ensures.room) c.loop-on.invariant.0,
      puts_alike (shown_to c.args.sight) c.args.sight.table (IsItemFace items v) _ _ c.args.out.now.items c.put_near.new.out.items
          (λ s h. elim ((among_more own near i on c.loop-on-test.true s).1 h) [ inl k ↦ inl k | inr k ↦ inr (subst (λ y. near y s) (sym c.on-item.is) k) ])
          (both_put (shown_to c.args.sight) c.args.sight.table (IsItemFace items v) (Among (take i own) near) (near on) c.args.out.now.items c.loop-on.out.items c.put_near.new.out.items c.loop-on.invariant.1 c.in_ok-put_near.ensures.rows),
    )

pub returns : goal.returns
returns c =
    let items : List Item = c.args.sight.c.now.items in
    let v : Viewer = viewer_of c.args.sight.viewer in
    let near : PathNames → Shown → Type 0 = λ y s. IsNearFace y items v s in
    subst (λ l. PutsRows (shown_to c.args.sight) (Among l near) (IsItemFace items v) c.args.sight.table c.args.out.now.items c.loop-on.out.items) (take_all c.loop-on.on-index c.args.own.now c.loop-on-test.false) c.loop-on.invariant.1
