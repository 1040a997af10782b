use Rattle.std.proofs.Common.{ℕ, List, [], ◌∷◌}
use Rattle.cat_items.specs.declared.edit.Refusal.{Refusal}
use Rattle.edit_rules.specs.Grantors.{IsGrantor}
use Rattle.edit_rules.proofs.FirstLaws.{error_of_first, error_of_others, exit_of_first, exit_of_others, passes_both, passes_more, passes_that}
use Rattle.role_edit.specs.GrantedRoles.{role_name_refusals, role_cycle, no_admin_option}
use Rattle.role_edit.proofs.Options.{lacks_option, has_options}
use Rattle.role_edit.proofs.grants.grantor.Goals as goal

pub returns-in_err-grantor : goal.returns-in_err-grantor
returns-in_err-grantor c =
    let items = c.args.c.now.items in
    let who = c.args.who.now in
    let parts = c.args.parts.now in
    let Done : List ℕ → Type 0 = IsGrantor items who parts.grantor in
    exit_of_first (role_name_refusals items who parts.roles parts.grantees parts.grantor) (role_cycle items parts.roles parts.grantees ∷ no_admin_option items who parts.grantor parts.roles ∷ []) Done Done
    c.in_err-grantor.field-0.0 c.from_residual.result c.from_residual.ensures.1 c.in_err-grantor.ensures

pub returns-in_err-test_cycle : goal.returns-in_err-test_cycle
returns-in_err-test_cycle c =
    let items = c.args.c.now.items in
    let who = c.args.who.now in
    let parts = c.args.parts.now in
    let done : Unit {0} → Type 0 = λ v. Unit {0} in
    let Done : List ℕ → Type 0 = IsGrantor items who parts.grantor in
    let cycle : Refusal → Type 0 = role_cycle items parts.roles parts.grantees in
    let lacks : Refusal → Type 0 = no_admin_option items who parts.grantor parts.roles in
    exit_of_others (role_name_refusals items who parts.roles parts.grantees parts.grantor) (cycle ∷ lacks ∷ []) done Done
    c.in_err-test_cycle.field-0.0 c.from_residual-in_err-test_cycle.result c.from_residual-in_err-test_cycle.ensures.1 c.in_ok-grantor.ensures.0
    (error_of_first (cycle ∷ []) (lacks ∷ []) done done c.in_err-test_cycle.field-0.0 c.in_err-test_cycle.ensures)

pub returns-in_err-test_privileges : goal.returns-in_err-test_privileges
returns-in_err-test_privileges c =
    let items = c.args.c.now.items in
    let who = c.args.who.now in
    let parts = c.args.parts.now in
    let done : Unit {0} → Type 0 = λ v. Unit {0} in
    let Done : List ℕ → Type 0 = IsGrantor items who parts.grantor in
    let cycle : Refusal → Type 0 = role_cycle items parts.roles parts.grantees in
    let lacks : Refusal → Type 0 = no_admin_option items who parts.grantor parts.roles in
    exit_of_others (role_name_refusals items who parts.roles parts.grantees parts.grantor) (cycle ∷ lacks ∷ []) done Done
    c.in_err-test_privileges.field-0.0 c.from_residual-in_err-test_privileges.result c.from_residual-in_err-test_privileges.ensures.1 c.in_ok-grantor.ensures.0
    (error_of_others (cycle ∷ []) (lacks ∷ []) done done c.in_err-test_privileges.field-0.0 c.in_ok-test_cycle.ensures.0
    (lacks_option items who parts.grantor parts.roles c.in_ok-grantor.grantor c.in_ok-grantor.ensures.1 c.in_ok-needs.needs done done c.in_err-test_privileges.field-0.0 c.in_ok-needs.ensures c.in_err-test_privileges.ensures))

pub returns : goal.returns
returns c =
    let items = c.args.c.now.items in
    let who = c.args.who.now in
    let parts = c.args.parts.now in
    let cycle : Refusal → Type 0 = role_cycle items parts.roles parts.grantees in
    let lacks : Refusal → Type 0 = no_admin_option items who parts.grantor parts.roles in (
      passes_both (role_name_refusals items who parts.roles parts.grantees parts.grantor) (cycle ∷ lacks ∷ []) c.in_ok-grantor.ensures.0
          (passes_more cycle (lacks ∷ []) (passes_that cycle c.in_ok-test_cycle.ensures.0)
          (has_options items who parts.grantor parts.roles c.in_ok-grantor.grantor c.in_ok-grantor.ensures.1 c.in_ok-needs.needs c.in_ok-needs.ensures c.in_ok-test_privileges.ensures.0)),
      c.in_ok-grantor.ensures.1,
    )
