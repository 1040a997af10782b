use Rattle.std.proofs.lemmas.Result.{on_ok_weaker}
use Rattle.schema_tables.specs.Shown.{of_table}
use Rattle.shown_items.specs.Faces.{shown_to}
use Rattle.shown_items.proofs.Adding.{added_alike}
use Rattle.shown_items.proofs.Sides.{where_so}
use Rattle.shown_items.proofs.objects.put_table.Goals as goal

pub returns : goal.returns
returns c =
    on_ok_weaker c.put_where.result
    (added_alike (shown_to c.args.sight) c.args.sight.table c.args.out.now.items c.put_where.new.out.items _ _ (where_so _ _ (of_table c.args.x.now) c.sees_table-may.ensures))
    c.put_where.ensures
