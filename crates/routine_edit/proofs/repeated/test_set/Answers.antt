use Rattle.std.proofs.Common.{◌∷◌, [], subst}
use Rattle.edit_rules.specs.First.{HasPassed}
use Rattle.statement_steps.specs.Repeated.{repeated_name}
use Rattle.routine_edit.proofs.repeated.test_set.Goals as goal

pub returns : goal.returns
returns c = subst (λ l. HasPassed (repeated_name l ∷ []) c.test_names_differ.result) c.in_ok-names.ensures c.test_names_differ.ensures.tested
