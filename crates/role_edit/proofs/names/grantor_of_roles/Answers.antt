use Rattle.std.proofs.Common.{ℕ, List, [], ◌∷◌, ◌++◌, map}
use Rattle.cat_items.specs.declared.edit.Refusal.{Refusal}
use Rattle.edit_rules.specs.Grantors.{IsGrantor, no_current_role}
use Rattle.edit_rules.specs.Names.{unknown_authorization, unknown_role}
use Rattle.edit_rules.proofs.FirstLaws.{error_of_first, exit_of_first, exit_of_others, tested_by_others}
use Rattle.role_edit.proofs.names.grantor_of_roles.Goals as goal

pub returns-in_err-test_roles : goal.returns-in_err-test_roles
returns-in_err-test_roles c =
    let items = c.args.c.now.items in
    let done : Unit {0} → Type 0 = λ v. Unit {0} in
    let Done : List ℕ → Type 0 = IsGrantor items c.args.who.now c.args.by in
    exit_of_first (map (unknown_role items) c.args.roles.now) (map (unknown_authorization items) c.args.grantees.now ++ no_current_role items c.args.who.now c.args.by ∷ []) done Done
    c.in_err-test_roles.field-0.0 c.from_residual.result c.from_residual.ensures.1 c.in_err-test_roles.ensures

pub returns-in_err-test_grantees : goal.returns-in_err-test_grantees
returns-in_err-test_grantees c =
    let items = c.args.c.now.items in
    let done : Unit {0} → Type 0 = λ v. Unit {0} in
    let Done : List ℕ → Type 0 = IsGrantor items c.args.who.now c.args.by in
    let none : Refusal → Type 0 = no_current_role items c.args.who.now c.args.by in
    exit_of_others (map (unknown_role items) c.args.roles.now) (map (unknown_authorization items) c.args.grantees.now ++ none ∷ []) done Done
    c.in_err-test_grantees.field-0.0 c.from_residual-in_err-test_grantees.result c.from_residual-in_err-test_grantees.ensures.1 c.in_ok-test_roles.ensures.0
    (error_of_first (map (unknown_authorization items) c.args.grantees.now) (none ∷ []) done done c.in_err-test_grantees.field-0.0 c.in_err-test_grantees.ensures)

pub returns : goal.returns
returns c =
    let items = c.args.c.now.items in
    let Done : List ℕ → Type 0 = IsGrantor items c.args.who.now c.args.by in
    let none : Refusal → Type 0 = no_current_role items c.args.who.now c.args.by in
    tested_by_others (map (unknown_role items) c.args.roles.now) (map (unknown_authorization items) c.args.grantees.now ++ none ∷ []) Done c.grantor_of.result c.in_ok-test_roles.ensures.0
    (tested_by_others (map (unknown_authorization items) c.args.grantees.now) (none ∷ []) Done c.grantor_of.result c.in_ok-test_grantees.ensures.0 c.grantor_of.ensures)
