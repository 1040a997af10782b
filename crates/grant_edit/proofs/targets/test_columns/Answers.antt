use Rattle.std.proofs.Common.{sym, subst}
use Rattle.sql_tree.specs.declared.rights.Privileges.{Privileges}
use Rattle.edit_rules.specs.First.{HasPassed}
use Rattle.grant_edit.specs.Targets.{unknown_listed_columns}
use Rattle.grant_edit.proofs.targets.test_columns.Goals as goal

pub returns-in-Listed : goal.returns-in-Listed
returns-in-Listed c = subst (λ (p : Privileges). HasPassed (unknown_listed_columns c.args.c.now.items c.args.object.now p) c.test_lists.result) (sym c.in-Listed.is) c.test_lists.ensures
