use Rattle.std.proofs.Common.{List}
use Rattle.std.proofs.lemmas.Result.{on_ok_weaker}
use Rattle.cat_items.specs.declared.item.Item.{Item}
use Rattle.cat_items.specs.Reach.{Has}
use Rattle.schema_tables.specs.Sight.{Viewer}
use Rattle.shown_items.specs.Candidates.{IsRightFace, IsSchemaFace}
use Rattle.shown_items.specs.Faces.{shown_to, IsItemFace}
use Rattle.shown_items.specs.Viewers.{viewer_of}
use Rattle.shown_items.proofs.Puts.{both_put}
use Rattle.shown_items.proofs.candidates.put_near.Goals as goal

pub returns-clause-rows : goal.returns-clause-rows
returns-clause-rows c =
    let items : List Item = c.args.sight.c.now.items in
    let v : Viewer = viewer_of c.args.sight.viewer in
    on_ok_weaker c.put_owned.result
    (both_put (shown_to c.args.sight) c.args.sight.table (IsItemFace items v) (λ s. Has items (λ x. IsRightFace c.args.on.now items v x s)) (IsSchemaFace c.args.on.now items v) c.args.out.now.items c.put_object.new.out.items c.put_owned.new.out.items
    c.in_ok-put_object.ensures.rows)
    c.put_owned.ensures.rows
