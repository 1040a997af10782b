use Rattle.std.proofs.Common.{◌∷◌, [], ◌∙◌, ap, map, subst}
use Rattle.sql_names.specs.declared.sort.Param.{Param}
use Rattle.edit_rules.specs.First.{HasPassed}
use Rattle.statement_steps.specs.Repeated.{repeated_name}
use Rattle.routine_edit.proofs.repeated.test_params.Goals as goal

pub returns : goal.returns
returns c = subst (λ l. HasPassed (repeated_name l ∷ []) c.test_names_differ.result) (c.in_ok-names.ensures ∙ ap (map (λ (p : Param). p.name)) c.as_slice.ensures) c.test_names_differ.ensures.tested
