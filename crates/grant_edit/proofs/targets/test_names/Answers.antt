use Rattle.std.proofs.Common.{[], ◌∷◌, map}
use Rattle.cat_items.specs.declared.edit.Refusal.{Refusal}
use Rattle.edit_rules.proofs.FirstLaws.{error_of_first, exit_of_first, exit_of_others, tested_by_others}
use Rattle.grant_edit.specs.Targets.{unknown_listed_columns, unknown_grantee, unknown_target_object}
use Rattle.grant_edit.proofs.targets.test_names.Goals as goal

pub returns-in_err-test_columns : goal.returns-in_err-test_columns
returns-in_err-test_columns c =
    let done : Unit {0} → Type 0 = λ v. Unit {0} in
    exit_of_first (unknown_listed_columns c.args.c.now.items c.args.object.now c.args.privileges.now) (unknown_target_object c.args.c.now.items c.args.kind c.args.object.now ∷ map (unknown_grantee c.args.c.now.items) c.args.grantees.now) done done
    c.in_err-test_columns.field-0.0 c.from_residual.result c.from_residual.ensures.1 c.in_err-test_columns.ensures

pub returns-in_err-test_target : goal.returns-in_err-test_target
returns-in_err-test_target c =
    let done : Unit {0} → Type 0 = λ v. Unit {0} in
    let target : Refusal → Type 0 = unknown_target_object c.args.c.now.items c.args.kind c.args.object.now in
    exit_of_others (unknown_listed_columns c.args.c.now.items c.args.object.now c.args.privileges.now) (target ∷ map (unknown_grantee c.args.c.now.items) c.args.grantees.now) done done
    c.in_err-test_target.field-0.0 c.from_residual-in_err-test_target.result c.from_residual-in_err-test_target.ensures.1 c.in_ok-test_columns.ensures.0
    (error_of_first (target ∷ []) (map (unknown_grantee c.args.c.now.items) c.args.grantees.now) done done c.in_err-test_target.field-0.0 c.in_err-test_target.ensures)

pub returns : goal.returns
returns c =
    let done : Unit {0} → Type 0 = λ v. Unit {0} in
    let target : Refusal → Type 0 = unknown_target_object c.args.c.now.items c.args.kind c.args.object.now in
    tested_by_others (unknown_listed_columns c.args.c.now.items c.args.object.now c.args.privileges.now) (target ∷ map (unknown_grantee c.args.c.now.items) c.args.grantees.now) done c.test_grantees.result c.in_ok-test_columns.ensures.0
    (tested_by_others (target ∷ []) (map (unknown_grantee c.args.c.now.items) c.args.grantees.now) done c.test_grantees.result c.in_ok-test_target.ensures.0 c.test_grantees.ensures)
