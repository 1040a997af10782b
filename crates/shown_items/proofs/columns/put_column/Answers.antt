use Rattle.std.proofs.lemmas.Result.{on_ok_weaker}
use Rattle.schema_tables.specs.Seen as lent
use Rattle.shown_items.specs.Faces.{shown_to}
use Rattle.shown_items.specs.Viewers.{viewer_of}
use Rattle.shown_items.proofs.Adding.{added_alike}
use Rattle.shown_items.proofs.LooksShown.{column_face}
use Rattle.shown_items.proofs.columns.put_column.Goals as goal

pub returns : goal.returns
returns c =
    on_ok_weaker c.put_where.result
    (added_alike (shown_to c.args.sight) c.args.sight.table c.args.out.now.items c.put_where.new.out.items _ _
    (column_face c.args.sight.c.now.items (viewer_of c.args.sight.viewer) c.sees_column-may.result c.owns-owned.result c.args.x.now c.position.result c.position.ensures.is c.position.ensures.only c.sees_column-may.ensures c.owns-owned.ensures (lent.column_of c.column_look-look.result) c.column_look-look.ensures))
    c.put_where.ensures
