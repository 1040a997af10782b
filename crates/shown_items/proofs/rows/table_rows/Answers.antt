use Rattle.std.proofs.lemmas.Result.{IfOk-weaker}
use Rattle.schema_tables.specs.Sight.{IsShown}
use Rattle.shown_items.specs.Faces.{IsItemFace, IsEnabledFace}
use Rattle.shown_items.specs.Viewers.{viewer_of}
use Rattle.shown_items.proofs.Adding.{added_alike, both_added}
use Rattle.shown_items.proofs.Faces.{rows_are, shown_faces}
use Rattle.shown_items.proofs.rows.table_rows.Goals as goal

pub returns : goal.returns
returns c =
    let items = c.args.c.now.items in
    let viewer = viewer_of c.args.viewer in
    let added =
    added_alike (IsShown items viewer) c.args.table c.new-out.result.items c.put_enabled.new.out.items _ _ (shown_faces items viewer)
    (both_added (IsShown items viewer) c.args.table (IsItemFace items viewer) (IsEnabledFace viewer) c.new-out.result.items c.put_items.new.out.items c.put_enabled.new.out.items c.in_ok-put_items.ensures c.in_ok-put_enabled.ensures) in
    IfOk-weaker c.in_order.result _ _ (λ all. rows_are (IsShown items viewer) c.args.table c.new-out.result.items c.put_enabled.new.out.items all.items c.new-out.ensures.items added) c.in_order.ensures
