use Rattle.std.proofs.Common.{sym, subst}
use Rattle.sql_tree.specs.declared.statement.Statement.{Statement}
use Rattle.edit_rules.specs.First.{IsTested}
use Rattle.grant_edit.specs.Statements.{IsGranting, grant_refusals}
use Rattle.grant_edit.proofs.statements.edit_grant.Goals as goal

pub returns-clause-tested : goal.returns-clause-tested
returns-clause-tested c =
    subst (λ (s : Statement). IsTested (grant_refusals c.args.c.now.items c.args.who.now s) (IsGranting c.args.c.now.items c.args.who.now s) c.grant.result) (sym c.in-GrantPrivileges.is) c.grant.ensures.tested
