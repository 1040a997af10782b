use Rattle.std.proofs.Common.{◌∷◌, []}
use Rattle.edit_rules.proofs.FirstLaws.{exit_of_first, tested_by_others}
use Rattle.statement_steps.specs.Repeated.{repeated_name}
use Rattle.routine_edit.specs.CreatedRoutines.{param_names, repeated_in_body}
use Rattle.routine_edit.proofs.repeated.test_repeated.Goals as goal

abbrev done : Unit {0} → Type 0
done value = Unit {0}

pub returns-in_err-test_params : goal.returns-in_err-test_params
returns-in_err-test_params c =
    exit_of_first (repeated_name (param_names c.args.signature.now) ∷ []) (repeated_in_body c.args.body.now) done done c.in_err-test_params.field-0.0 c.from_residual.result c.from_residual.ensures.1 c.in_err-test_params.ensures

pub returns : goal.returns
returns c = tested_by_others (repeated_name (param_names c.args.signature.now) ∷ []) (repeated_in_body c.args.body.now) done c.test_body.result c.in_ok-test_params.ensures.0 c.test_body.ensures
