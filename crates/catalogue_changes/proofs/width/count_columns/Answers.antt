use Rattle.std.proofs.Common.{◌-◌, List, length, take, drop, sym, subst}
use Rattle.cat_items.specs.declared.item.Item.{Item}
use Rattle.new_catalogues.specs.Width.{HasColumnCount}
use Rattle.catalogue_changes.proofs.Widths.{column_part}
use Rattle.catalogue_changes.proofs.width.count_columns.Goals as goal

pub returns-clause-counted : goal.returns-clause-counted
returns-clause-counted c =
    let from = c.columns_of.result.start in
    let to = c.columns_of.result.end in
    let table = c.args.table.now in
    let old = c.args.c.now.items in
    subst (λ (l : List Item). HasColumnCount old table (length (take (to - from) (drop from l)))) (sym c.items.ensures.items) (column_part old table from to c.items.ensures.order c.columns_of.ensures)
