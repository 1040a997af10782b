use Rattle.edit_rules.proofs.TestLists.{PassBelow}
use Rattle.table_additions.specs.Additions.{column_taken}
use Rattle.table_additions.proofs.refusing.test_new_columns.Given as goal

abbrev pub invariant-loop-part : goal.invariant-loop-part
invariant-loop-part l = record { before : PassBelow (column_taken l.c.items l.table) l.parts l.part-index }
