use Rattle.std.proofs.Common.{arith}
use Rattle.catalogue_changes.proofs.Widths.{count_after, fewer_leave}
use Rattle.catalogue_changes.proofs.width.count_columns_after.Goals as goal

pub overflow_sub-stay : goal.overflow_sub-stay
overflow_sub-stay c =
    fewer_leave c.args.c.now.items c.requires.0 c.args.change.now c.items.ensures.order c.requires.1 c.args.table.now c.count_columns.result c.count_columns-2.result c.count_columns.ensures.counted c.count_columns-2.ensures.counted

pub returns : goal.returns
returns c = λ new is.
    let old = c.args.c.now.items in
    let change = c.args.change.now in
    let table = c.args.table.now in
    let few = fewer_leave old new change c.items.ensures.order is table c.count_columns.result c.count_columns-2.result c.count_columns.ensures.counted c.count_columns-2.ensures.counted in
    count_after old new change c.items.ensures.order is table c.count_columns.result c.count_columns-2.result c.count_columns-3.result _ c.count_columns.ensures.counted c.count_columns-2.ensures.counted c.count_columns-3.ensures.counted (omega (arith, few))
