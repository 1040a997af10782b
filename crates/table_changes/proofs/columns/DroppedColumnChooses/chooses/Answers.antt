use Rattle.std.proofs.Common.{◌↔◌, IsTrue, subst, sym}
use Rattle.cat_items.specs.declared.item.Check.{Check}
use Rattle.cat_items.specs.declared.item.Item.{Item}
use Rattle.cat_items.specs.declared.item.Item.TheVariants as item
use Rattle.table_changes.specs.DroppedColumns.{GoesWithColumn}
use Rattle.table_changes.proofs.columns.DroppedColumnChooses.chooses.Goals as goal

pub returns-in-Check : goal.returns-in-Check
returns-in-Check c =
    let table = c.args.self.now.table.now in
    let name = c.args.self.now.name.now in
    subst (λ (x : Item). IsTrue c.is_in_check.result ↔ GoesWithColumn table name x) (sym c.in-Check.is)
    (subst (λ (k : Check). IsTrue c.is_in_check.result ↔ GoesWithColumn table name (item.Check k)) c.get-in-Check.ensures c.is_in_check.ensures)
