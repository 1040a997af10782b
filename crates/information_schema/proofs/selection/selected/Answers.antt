use Rattle.std.proofs.Common.{◌≡◌, ◌<◌, List, length, get_or, subst}
use Rattle.schema_tables.specs.Cells.{Row}
use Rattle.information_schema.specs.Views.{columns_of}
use Rattle.information_schema.proofs.Selecting.{selected_more}
use Rattle.information_schema.proofs.selection.selected.Goals as goal

pub loop-row-preserved : goal.loop-row-preserved
loop-row-preserved c =
    let rows : List Row = c.args.rows.now.items in
    let within : c.loop-row.row-index < length rows = subst (λ (l : List Row). c.loop-row.row-index < length l) c.deref-row-items.ensures.value c.loop-row-test.true in
    let is : c.row-item.result ≡ get_or rows c.loop-row.row-index c.row-item.result = subst (λ (l : List Row). c.row-item.result ≡ get_or l c.loop-row.row-index c.row-item.result) c.deref-row-items.ensures.value c.row-item.is in
    selected_more (columns_of c.args.columns.now) c.args.query.now rows c.loop-row.row-index c.row-item.result c.loop-row.out.items c.push_selected.new.out.items within is c.loop-row.invariant c.in_ok-push_selected.ensures
