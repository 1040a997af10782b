use Rattle.std.proofs.Common.{ℕ, List, [], ◌∷◌}
use Rattle.cat_items.specs.declared.edit.Refusal.{Refusal}
use Rattle.edit_rules.specs.Grantors.{IsGrantor, no_current_role}
use Rattle.edit_rules.proofs.FirstLaws.{error_of_first, exit_of_others, passes_more, passes_that}
use Rattle.role_edit.specs.CreatedRoles.{reserved_role, authorization_exists}
use Rattle.role_edit.proofs.creations.administrator.Goals as goal

pub returns-in_err-admin : goal.returns-in_err-admin
returns-in_err-admin c =
    let items = c.args.c.now.items in
    let Done : List ℕ → Type 0 = IsGrantor items c.args.who.now c.args.parts.now.admin in
    let reserved : Refusal → Type 0 = reserved_role c.args.parts.now.role in
    let none : Refusal → Type 0 = no_current_role items c.args.who.now c.args.parts.now.admin in
    let taken : Refusal → Type 0 = authorization_exists items c.args.who.now c.args.parts.now.role in
    exit_of_others (reserved ∷ []) (none ∷ taken ∷ []) Done Done c.in_err-admin.field-0.0 c.from_residual-in_err-admin.result c.from_residual-in_err-admin.ensures.1 c.in_ok-test_reserved.ensures.0
    (error_of_first (none ∷ []) (taken ∷ []) Done Done c.in_err-admin.field-0.0 c.in_err-admin.ensures)

pub returns-in_err-test_new : goal.returns-in_err-test_new
returns-in_err-test_new c =
    let items = c.args.c.now.items in
    let done : Unit {0} → Type 0 = λ v. Unit {0} in
    let Done : List ℕ → Type 0 = IsGrantor items c.args.who.now c.args.parts.now.admin in
    let reserved : Refusal → Type 0 = reserved_role c.args.parts.now.role in
    let none : Refusal → Type 0 = no_current_role items c.args.who.now c.args.parts.now.admin in
    let taken : Refusal → Type 0 = authorization_exists items c.args.who.now c.args.parts.now.role in
    exit_of_others (reserved ∷ none ∷ []) (taken ∷ []) done Done c.in_err-test_new.field-0.0 c.from_residual-in_err-test_new.result c.from_residual-in_err-test_new.ensures.1
    (passes_more reserved (none ∷ []) (passes_that reserved c.in_ok-test_reserved.ensures.0) c.in_ok-admin.ensures.0) c.in_err-test_new.ensures

pub returns : goal.returns
returns c =
    let items = c.args.c.now.items in
    let reserved : Refusal → Type 0 = reserved_role c.args.parts.now.role in
    let none : Refusal → Type 0 = no_current_role items c.args.who.now c.args.parts.now.admin in
    let taken : Refusal → Type 0 = authorization_exists items c.args.who.now c.args.parts.now.role in
    (passes_more reserved (none ∷ taken ∷ []) (passes_that reserved c.in_ok-test_reserved.ensures.0) (passes_more none (taken ∷ []) (passes_that none c.in_ok-admin.ensures.0) c.in_ok-test_new.ensures.0), c.in_ok-admin.ensures.1)
