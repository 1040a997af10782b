use Rattle.std.proofs.Common.{List}
use Rattle.std.proofs.lemmas.Result.{on_ok_weaker}
use Rattle.cat_items.specs.declared.item.Item.{Item}
use Rattle.cat_items.specs.Reach.{Has}
use Rattle.schema_tables.specs.Sight.{Viewer}
use Rattle.shown_items.specs.Candidates.{IsFaceAmong, IsRightFace}
use Rattle.shown_items.specs.Faces.{shown_to, IsItemFace}
use Rattle.shown_items.specs.Viewers.{viewer_of}
use Rattle.shown_items.proofs.Near.{right_parts, face_of_parts, right_faces}
use Rattle.shown_items.proofs.Puts.{puts_of_added}
use Rattle.shown_items.proofs.candidates.put_object.Goals as goal

pub returns-clause-rows : goal.returns-clause-rows
returns-clause-rows c =
    let items : List Item = c.args.sight.c.now.items in
    let v : Viewer = viewer_of c.args.sight.viewer in
    let key = c.in-Some.key in
    on_ok_weaker c.put_parts.result
    (puts_of_added (shown_to c.args.sight) c.args.sight.table (IsItemFace items v) (IsFaceAmong c.args.sight.table (right_parts key) items v) (λ s. Has items (λ x. IsRightFace c.args.on.now items v x s)) c.args.out.now.items c.put_parts.new.out.items
    (face_of_parts items v c.args.sight.table (right_parts key)) (λ s m row h has. right_faces items v c.args.sight.table s m row has c.args.on.now key c.in-Some.ensures.found h))
    c.put_parts.ensures.rows
