use Rattle.std.proofs.Common.{sym, subst}
use Rattle.edit_rules.specs.First.{IsTested}
use Rattle.role_edit.specs.RoleEdits.{role_statement_refusals, IsRoleEdit}
use Rattle.role_edit.proofs.statements.edit_role.Goals as goal

pub returns-in-CreateRole-clause-tested : goal.returns-in-CreateRole-clause-tested
returns-in-CreateRole-clause-tested c =
    let items = c.args.c.now.items in
    let who = c.args.who.now in
    subst (λ s. IsTested (role_statement_refusals items who s) (IsRoleEdit items who s) c.create_role.result) (sym c.in-CreateRole.is) c.create_role.ensures.tested
