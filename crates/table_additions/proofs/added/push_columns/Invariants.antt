use Rattle.std.proofs.Common.{◌≡◌, ◌++◌, map, take}
use Rattle.cat_items.specs.declared.item.Item.TheVariants as item
use Rattle.table_additions.proofs.added.push_columns.Given as goal

abbrev pub invariant-loop-column : goal.invariant-loop-column
invariant-loop-column l = record { put : l.all ≡ l.initial.all ++ map item.Column (take l.column-index l.columns) }
