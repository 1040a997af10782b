use Rattle.std.proofs.Common.{sym, subst}
use Rattle.edit_rules.specs.First.{HasPassed}
use Rattle.table_parts.specs.declared.parts.Part.{Part}
use Rattle.table_additions.specs.Additions.{column_taken}
use Rattle.table_additions.proofs.refusing.test_new_part.Goals as goal

pub returns-in-Column : goal.returns-in-Column
returns-in-Column c = subst (λ (p : Part). HasPassed (column_taken c.args.c.now.items c.args.table.now p) c.test_new_column.result) (sym c.in-Column.is) c.test_new_column.ensures
