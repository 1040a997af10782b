use Rattle.std.proofs.lemmas.Result.{on_ok_weaker}
use Rattle.schema_tables.specs.Seen as lent
use Rattle.shown_items.specs.Faces.{shown_to}
use Rattle.shown_items.proofs.Adding.{rows_added}
use Rattle.shown_items.proofs.putting.put_where.Goals as goal

pub returns-then-may : goal.returns-then-may
returns-then-may c =
    on_ok_weaker c.rows_of.result
    (rows_added (shown_to c.args.sight) c.args.sight.table c.args.out.now.items c.rows_of.new.out.items c.args.may (lent.shown c.args.seen) (lent.beside_of c.args.beside) c.if-may.true (c.requires c.if-may.true))
    c.rows_of.ensures
