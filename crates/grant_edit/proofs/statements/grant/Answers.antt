use Rattle.edit_rules.specs.Grantors.{IsGrantor}
use Rattle.grant_edit.specs.Statements.{Grants, granting_refusals}
use Rattle.grant_edit.proofs.StatementLemmas.{exit_as, grant_by_grantor, grant_unknown, grant_without_role, names_pass}
use Rattle.grant_edit.proofs.statements.grant.Goals as goal

pub returns-in_err-test_names-clause-tested : goal.returns-in_err-test_names-clause-tested
returns-in_err-test_names-clause-tested c =
    let items = c.args.c.now.items in
    let done : Unit {0} → Type 0 = λ v. Unit {0} in
    exit_as (granting_refusals items c.args.who.now c.args.parts.now) (Grants items c.args.who.now c.args.parts.now) c.in_err-test_names.field-0.0 c.from_residual-in_err-test_names.result c.from_residual-in_err-test_names.ensures.1
    (grant_unknown items c.args.who.now c.args.parts.now c.in_ok-object.object c.in_ok-object.ensures done c.in_err-test_names.field-0.0 c.in_err-test_names.ensures)

pub returns-in_err-grantor-clause-tested : goal.returns-in_err-grantor-clause-tested
returns-in_err-grantor-clause-tested c =
    let items = c.args.c.now.items in
    let done : Unit {0} → Type 0 = λ v. Unit {0} in
    exit_as (granting_refusals items c.args.who.now c.args.parts.now) (Grants items c.args.who.now c.args.parts.now) c.in_err-grantor.field-0.0 c.from_residual-in_err-grantor.result c.from_residual-in_err-grantor.ensures.1
    (grant_without_role items c.args.who.now c.args.parts.now c.in_ok-object.object c.in_ok-object.ensures (IsGrantor items c.args.who.now c.args.parts.now.grantor) c.in_err-grantor.field-0.0
    (names_pass items c.args.who.now c.args.parts.now c.in_ok-object.object c.in_ok-object.ensures done tt c.in_ok-test_names.ensures) c.in_err-grantor.ensures)

pub returns-clause-tested : goal.returns-clause-tested
returns-clause-tested c =
    let items = c.args.c.now.items in
    let done : Unit {0} → Type 0 = λ v. Unit {0} in
    grant_by_grantor items c.args.who.now c.args.parts.now c.in_ok-object.object c.in_ok-object.ensures c.in_ok-grantor.grantor c.grant_by.result
    (names_pass items c.args.who.now c.args.parts.now c.in_ok-object.object c.in_ok-object.ensures done tt c.in_ok-test_names.ensures) c.in_ok-grantor.ensures c.grant_by.ensures.tested
