use Rattle.std.proofs.Common.{◌≡◌}
use Rattle.cat_items.specs.Rights.{reference}
use Rattle.table_parts.proofs.Searches.{NoneBelow}
use Rattle.table_changes.proofs.columns.DroppedColumn.is_referred.Given as goal

abbrev pub invariant-loop-need : goal.invariant-loop-need
invariant-loop-need l = record { none : NoneBelow (λ need. need ≡ reference l.self.table.now l.self.name.now) l.needs l.need-index }
