use Rattle.std.proofs.lemmas.Result.{on_ok_weaker}
use Rattle.schema_tables.specs.Seen as lent
use Rattle.shown_items.specs.Faces.{shown_to}
use Rattle.shown_items.proofs.Adding.{added_alike}
use Rattle.shown_items.proofs.Sides.{where_so}
use Rattle.shown_items.proofs.items.put_name.Goals as goal

pub returns : goal.returns
returns c =
    on_ok_weaker c.put_where.result
    (added_alike (shown_to c.args.sight) c.args.sight.table c.args.out.now.items c.put_where.new.out.items _ _ (where_so _ _ (lent.shown c.args.seen) c.sees_all-may.ensures))
    c.put_where.ensures
