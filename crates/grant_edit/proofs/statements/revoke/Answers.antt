use Rattle.edit_rules.specs.Grantors.{IsGrantor}
use Rattle.grant_edit.specs.Statements.{Revokes, revoking_refusals}
use Rattle.grant_edit.proofs.StatementLemmas.{exit_as, revoke_by_grantor, revoke_names_pass, revoke_unknown, revoke_without_role}
use Rattle.grant_edit.proofs.statements.revoke.Goals as goal

pub returns-in_err-test_names-clause-tested : goal.returns-in_err-test_names-clause-tested
returns-in_err-test_names-clause-tested c =
    let items = c.args.c.now.items in
    let done : Unit {0} → Type 0 = λ v. Unit {0} in
    exit_as (revoking_refusals items c.args.who.now c.args.parts.now) (Revokes items c.args.who.now c.args.parts.now) c.in_err-test_names.field-0.0 c.from_residual-in_err-test_names.result c.from_residual-in_err-test_names.ensures.1
    (revoke_unknown items c.args.who.now c.args.parts.now c.in_ok-object.object c.in_ok-object.ensures done c.in_err-test_names.field-0.0 c.in_err-test_names.ensures)

pub returns-in_err-grantor-clause-tested : goal.returns-in_err-grantor-clause-tested
returns-in_err-grantor-clause-tested c =
    let items = c.args.c.now.items in
    let done : Unit {0} → Type 0 = λ v. Unit {0} in
    exit_as (revoking_refusals items c.args.who.now c.args.parts.now) (Revokes items c.args.who.now c.args.parts.now) c.in_err-grantor.field-0.0 c.from_residual-in_err-grantor.result c.from_residual-in_err-grantor.ensures.1
    (revoke_without_role items c.args.who.now c.args.parts.now c.in_ok-object.object c.in_ok-object.ensures (IsGrantor items c.args.who.now c.args.parts.now.grantor) c.in_err-grantor.field-0.0
    (revoke_names_pass items c.args.who.now c.args.parts.now c.in_ok-object.object c.in_ok-object.ensures done tt c.in_ok-test_names.ensures) c.in_err-grantor.ensures)

pub returns-clause-tested : goal.returns-clause-tested
returns-clause-tested c =
    let items = c.args.c.now.items in
    let done : Unit {0} → Type 0 = λ v. Unit {0} in
    revoke_by_grantor items c.args.who.now c.args.parts.now c.in_ok-object.object c.in_ok-object.ensures c.in_ok-grantor.grantor c.in_ok-revoke_by.field-0
    (revoke_names_pass items c.args.who.now c.args.parts.now c.in_ok-object.object c.in_ok-object.ensures done tt c.in_ok-test_names.ensures) c.in_ok-grantor.ensures c.in_ok-revoke_by.ensures.revoked
