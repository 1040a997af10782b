use Rattle.std.proofs.Common.{[], ◌∷◌}
use Rattle.cat_items.specs.declared.edit.Refusal.{Refusal}
use Rattle.edit_rules.specs.Names.{unknown_authorization}
use Rattle.edit_rules.proofs.FirstLaws.{passes_that, passes_more, error_of_first, exit_of_others, tested_by_others}
use Rattle.define_edit.specs.CreatedSchemas.{reserved_schema, not_owner_to_be, schema_exists}
use Rattle.define_edit.proofs.schemas.test_schema.Goals as goal

pub returns-in_err-test_authorization : goal.returns-in_err-test_authorization
returns-in_err-test_authorization c =
    let items = c.args.c.now.items in
    let done : Unit {0} → Type 0 = λ v. Unit {0} in
    let reserved : Refusal → Type 0 = reserved_schema c.args.schema.now in
    let unknown : Refusal → Type 0 = unknown_authorization items c.args.owner.now in
    let other : Refusal → Type 0 = not_owner_to_be items c.args.who.now c.args.schema.now c.args.owner.now in
    let taken : Refusal → Type 0 = schema_exists items c.args.schema.now in
    exit_of_others (reserved ∷ []) (unknown ∷ other ∷ taken ∷ []) done done c.in_err-test_authorization.field-0.0 c.from_residual-in_err-test_authorization.result c.from_residual-in_err-test_authorization.ensures.1
    c.in_ok-test_reserved.ensures.0 (error_of_first (unknown ∷ []) (other ∷ taken ∷ []) done done c.in_err-test_authorization.field-0.0 c.in_err-test_authorization.ensures)

pub returns-in_err-test_owner_to_be : goal.returns-in_err-test_owner_to_be
returns-in_err-test_owner_to_be c =
    let items = c.args.c.now.items in
    let done : Unit {0} → Type 0 = λ v. Unit {0} in
    let reserved : Refusal → Type 0 = reserved_schema c.args.schema.now in
    let unknown : Refusal → Type 0 = unknown_authorization items c.args.owner.now in
    let other : Refusal → Type 0 = not_owner_to_be items c.args.who.now c.args.schema.now c.args.owner.now in
    let taken : Refusal → Type 0 = schema_exists items c.args.schema.now in
    exit_of_others (reserved ∷ unknown ∷ []) (other ∷ taken ∷ []) done done c.in_err-test_owner_to_be.field-0.0 c.from_residual-in_err-test_owner_to_be.result c.from_residual-in_err-test_owner_to_be.ensures.1
    (passes_more reserved (unknown ∷ []) (passes_that reserved c.in_ok-test_reserved.ensures.0) c.in_ok-test_authorization.ensures.0)
    (error_of_first (other ∷ []) (taken ∷ []) done done c.in_err-test_owner_to_be.field-0.0 c.in_err-test_owner_to_be.ensures)

pub returns : goal.returns
returns c =
    let items = c.args.c.now.items in
    let done : Unit {0} → Type 0 = λ v. Unit {0} in
    let reserved : Refusal → Type 0 = reserved_schema c.args.schema.now in
    let unknown : Refusal → Type 0 = unknown_authorization items c.args.owner.now in
    let other : Refusal → Type 0 = not_owner_to_be items c.args.who.now c.args.schema.now c.args.owner.now in
    let taken : Refusal → Type 0 = schema_exists items c.args.schema.now in
    tested_by_others (reserved ∷ unknown ∷ other ∷ []) (taken ∷ []) done c.test_new.result
    (passes_more reserved (unknown ∷ other ∷ []) (passes_that reserved c.in_ok-test_reserved.ensures.0)
    (passes_more unknown (other ∷ []) (passes_that unknown c.in_ok-test_authorization.ensures.0) c.in_ok-test_owner_to_be.ensures.0)) c.test_new.ensures
