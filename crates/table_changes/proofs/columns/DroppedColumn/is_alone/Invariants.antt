use Rattle.std.proofs.Common.{take}
use Rattle.std.specs.List.{Contains}
use Rattle.cat_items.specs.declared.need.Need.{Need}
use Rattle.table_changes.specs.DroppedColumns.{IsOfColumn}
use Rattle.table_changes.proofs.columns.DroppedColumn.is_alone.Given as goal

abbrev pub invariant-loop-need : goal.invariant-loop-need
invariant-loop-need l = record { all : (need : Need) → Contains (take l.need-index l.needs) need → IsOfColumn l.self.table.now l.self.name.now need }
