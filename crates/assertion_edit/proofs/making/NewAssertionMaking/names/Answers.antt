use Rattle.std.proofs.Common.{[], ◌∷◌}
use Rattle.edit_rules.specs.Names.{unknown_schema}
use Rattle.edit_rules.proofs.FirstLaws.{tested_by_others}
use Rattle.edit_conditions.specs.Conditions.{IsFound}
use Rattle.statement_steps.specs.Resolving.{unresolved_name}
use Rattle.assertion_edit.specs.CreatedAssertions.{outcome_of}
use Rattle.assertion_edit.proofs.making.NewAssertionMaking.names.Goals as goal

pub returns : goal.returns
returns c =
    let items = c.args.c.now.items in
    let outcome = outcome_of items c.args.who.now c.args.self.now.condition.now in
    tested_by_others (unknown_schema items c.args.self.now.name.schema ∷ []) (unresolved_name outcome ∷ []) (IsFound outcome) c.found_of.result c.in_ok-test_schema.ensures.0 c.found_of.ensures
