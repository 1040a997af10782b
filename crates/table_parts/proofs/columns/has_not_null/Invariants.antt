use Rattle.std.proofs.Common.{◌≡◌}
use Rattle.sql_tree.specs.declared.table.ColumnOption.TheVariants.{NotNull}
use Rattle.table_parts.proofs.Searches.{NoneBelow}
use Rattle.table_parts.proofs.columns.has_not_null.Given as goal

abbrev pub invariant-loop-option : goal.invariant-loop-option
invariant-loop-option l = record { none : NoneBelow (λ y. y ≡ NotNull) l.options l.option-index }
