use Rattle.std.proofs.Common.{◌≡◌, ◌++◌, map, take}
use Rattle.cat_items.specs.Rights.{reference}
use Rattle.table_needs.proofs.needs.push_references.Given as goal

abbrev pub invariant-loop-column : goal.invariant-loop-column
invariant-loop-column l = record { needs : l.needs ≡ l.initial.needs ++ map (reference l.table) (take l.column-index l.columns) }
