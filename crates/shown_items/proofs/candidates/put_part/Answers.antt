use Rattle.std.proofs.Common.{◌≡◌, ◌<◌, ◌≤◌, ℕ, List, refl, sym, subst, ◌∙◌, length, arith}
use Rattle.std.specs.Prelude.{IsTrue, slice_index_or}
use Rattle.cat_items.specs.declared.item.Item.{Item}
use Rattle.cat_items.specs.Ranges.{IsIn}
use Rattle.role_graph.specs.Roles.{IsRoomFor}
use Rattle.schema_tables.specs.Shown.{Shown}
use Rattle.shown_items.specs.Faces.{shown_to, IsFace}
use Rattle.shown_items.specs.Reads.{reads_part}
use Rattle.shown_items.specs.Viewers.{viewer_of}
use Rattle.shown_items.proofs.Adding.{none_added, both_added, added_alike}
use Rattle.shown_items.proofs.Spans.{InSpan, span_more, span_all, span_none}
use Rattle.shown_items.proofs.candidates.put_part.Goals as goal

pub put_item-requires-clause-room : goal.put_item-requires-clause-room
put_item-requires-clause-room c = subst (λ w. IsRoomFor w c.args.sight.c.now.items) (sym c.loop-at.invariant.0) c.requires

pub returns-in_err-put_item-clause-room : goal.returns-in_err-put_item-clause-room
returns-in_err-put_item-clause-room c = c.put_item.ensures.room ∙ c.loop-at.invariant.0

pub loop-at-init : goal.loop-at-init
loop-at-init c =
    let items : List Item = c.args.sight.c.now.items in
    let face : Item → Shown → Type 0 = IsFace items (viewer_of c.args.sight.viewer) in
    (refl, none_added (shown_to c.args.sight) c.args.sight.table c.args.out.now.items c.args.out.now.items (InSpan items c.places-range.result.start c.places-range.result.start face) (λ s m row h k. span_none items face c.places-range.result.start s h) refl)

pub loop-at-preserved : goal.loop-at-preserved
loop-at-preserved c =
    let items : List Item = c.args.sight.c.now.items in
    let face : Item → Shown → Type 0 = IsFace items (viewer_of c.args.sight.viewer) in
    let x : Item = c.index-items-at.result in
    let i : ℕ = c.loop-at.at in
    let here : slice_index_or items i x ≡ x = subst (λ l. slice_index_or l i x ≡ x) c.items-items.ensures.items (sym c.index-items-at.is) in
    let within : i < length items = omega (arith, c.places-range.ensures.within) in
    let low : c.places-range.result.start ≤ i = omega arith in (
      c.put_item.ensures.room ∙ c.loop-at.invariant.0,
      added_alike (shown_to c.args.sight) c.args.sight.table c.args.out.now.items c.put_item.new.out.items _ _ (span_more items face c.places-range.result.start i x low within here)
          (both_added (shown_to c.args.sight) c.args.sight.table (InSpan items c.places-range.result.start i face) (face x) c.args.out.now.items c.loop-at.out.items c.put_item.new.out.items
          c.loop-at.invariant.1 c.in_ok-put_item.ensures.rows),
    )

pub returns : goal.returns
returns c =
    let items : List Item = c.args.sight.c.now.items in
    let face : Item → Shown → Type 0 = IsFace items (viewer_of c.args.sight.viewer) in
    let read : IsTrue (reads_part c.args.sight.table c.args.part) = sym c.reads_part.ensures ∙ c.if-not-reads_part.false in
    let all : c.loop-at.at ≡ c.places-range.result.end = omega (arith, c.places-range.ensures.ordered) in
    let same = span_all items face c.places-range.result.start (IsIn c.args.part) c.places-range.result.end c.loop-at.at c.places-range.ensures all in
    record {
      rows = added_alike (shown_to c.args.sight) c.args.sight.table c.args.out.now.items c.loop-at.out.items _ _ (λ s. (λ h. (read, (same s).0 h), λ h. (same s).1 h.1)) c.loop-at.invariant.1;
      room = c.loop-at.invariant.0;
    }
