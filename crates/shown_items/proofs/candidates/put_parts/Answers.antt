use Rattle.std.proofs.Common.{ℕ, List, sym, subst, ◌∙◌, take, get_or}
use Rattle.std.proofs.lemmas.List.{take_all}
use Rattle.cat_items.specs.declared.ranges.Part.{Part}
use Rattle.role_graph.specs.Roles.{IsRoomFor}
use Rattle.schema_tables.specs.Shown.{Shown}
use Rattle.shown_items.specs.Candidates.{IsFaceIn}
use Rattle.shown_items.specs.Faces.{AddsRows, shown_to}
use Rattle.shown_items.specs.Viewers.{viewer_of}
use Rattle.shown_items.proofs.Adding.{Among, among_more, added_alike, two_added}
use Rattle.shown_items.proofs.candidates.put_parts.Goals as goal

pub put_part-requires : goal.put_part-requires
put_part-requires c = subst (λ w. IsRoomFor w c.args.sight.c.now.items) (sym c.loop-part.invariant.0) c.requires

pub loop-part-preserved : goal.loop-part-preserved
loop-part-preserved c =
    let parts : List Part = c.args.parts.now in
    let face : Part → Shown → Type 0 = λ part s. IsFaceIn c.args.sight.table part c.args.sight.c.now.items (viewer_of c.args.sight.viewer) s in
    let part : Part = c.part-item.result in
    let i : ℕ = c.loop-part.part-index in (
      c.put_part.ensures.room ∙ c.loop-part.invariant.0,
      added_alike (shown_to c.args.sight) c.args.sight.table c.args.out.now.items c.put_part.new.out.items _ _ (among_more parts face i part c.loop-part-test.true)
          (two_added (shown_to c.args.sight) c.args.sight.table (Among (take i parts) face) (face (get_or parts i part)) c.args.out.now.items c.loop-part.out.items c.put_part.new.out.items
          (Among (take i parts) face) (face part) (λ s. (λ h. h, λ h. h))
          (λ s. (λ h. subst (λ y. face y s) c.part-item.is h, λ h. subst (λ y. face y s) (sym c.part-item.is) h))
          c.loop-part.invariant.1 c.in_ok-put_part.ensures.rows),
    )

pub returns-clause-rows : goal.returns-clause-rows
returns-clause-rows c =
    let parts : List Part = c.args.parts.now in
    let face : Part → Shown → Type 0 = λ part s. IsFaceIn c.args.sight.table part c.args.sight.c.now.items (viewer_of c.args.sight.viewer) s in
    subst (λ l. AddsRows (shown_to c.args.sight) (Among l face) c.args.sight.table c.args.out.now.items c.loop-part.out.items) (take_all c.loop-part.part-index parts c.loop-part-test.false) c.loop-part.invariant.1
