use Rattle.std.proofs.Common.{◌≢◌, [], ◌∷◌, length}
use Rattle.cat_items.specs.declared.edit.Refusal.{Refusal}
use Rattle.cat_items.specs.declared.edit.Refusal.TheVariants.{TypeMismatch}
use Rattle.edit_rules.proofs.FirstLaws.{error_of_first, exit_of_others, passes_more, passes_that, tested_by_others}
use Rattle.statement_steps.specs.Repeated.{repeated_name}
use Rattle.statement_steps.specs.Steps.{where_it_is}
use Rattle.object_edits.specs.CreatedViews.{too_many_places}
use Rattle.object_edits.proofs.views.test_columns.Goals as goal

pub returns-in_err-test_names_differ : goal.returns-in_err-test_names_differ
returns-in_err-test_names_differ c =
    let done : Unit {0} → Type 0 = λ v. Unit {0} in
    let count : Refusal → Type 0 = where_it_is (length c.args.names.now ≢ length c.args.sorts.now) TypeMismatch in
    let again : Refusal → Type 0 = repeated_name c.args.names.now in
    let many : Refusal → Type 0 = too_many_places c.args.names.now in
    let e = c.in_err-test_names_differ.field-0.0 in
    exit_of_others (count ∷ []) (again ∷ many ∷ []) done done e c.from_residual-in_err-test_names_differ.result c.from_residual-in_err-test_names_differ.ensures.1 c.in_ok-test_count.ensures.0
    (error_of_first (again ∷ []) (many ∷ []) done done e c.in_err-test_names_differ.ensures.tested)

pub returns : goal.returns
returns c =
    let done : Unit {0} → Type 0 = λ v. Unit {0} in
    let count : Refusal → Type 0 = where_it_is (length c.args.names.now ≢ length c.args.sorts.now) TypeMismatch in
    let again : Refusal → Type 0 = repeated_name c.args.names.now in
    let many : Refusal → Type 0 = too_many_places c.args.names.now in
    tested_by_others (count ∷ again ∷ []) (many ∷ []) done c.test_places.result (passes_more count (again ∷ []) (passes_that count c.in_ok-test_count.ensures.0) c.in_ok-test_names_differ.ensures.tested.0) c.test_places.ensures
