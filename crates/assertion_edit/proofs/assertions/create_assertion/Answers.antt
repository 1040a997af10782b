use Rattle.std.proofs.Common.{subst}
use Rattle.sql_names.specs.declared.object.Object.{Object}
use Rattle.edit_rules.specs.First.{IsTested}
use Rattle.statement_steps.specs.Steps.{refusals_of}
use Rattle.assertion_edit.specs.CreatedAssertions.{assertion_steps}
use Rattle.assertion_edit.proofs.NewAssertions.{created_soundly}
use Rattle.assertion_edit.proofs.assertions.create_assertion.Goals as goal

pub returns-clause-tested : goal.returns-clause-tested
returns-clause-tested c =
    let items = c.args.c.now.items in
    let who = c.args.who.now in
    let condition = c.args.statement.now.condition in
    subst (λ (name : Object). IsTested (refusals_of items who (assertion_steps items who name condition)) (assertion_steps items who name condition).edit c.edit_of.result) c.in_ok-object_in.ensures c.edit_of.ensures

pub returns-clause-sound : goal.returns-clause-sound
returns-clause-sound c = created_soundly c.args.c.now.items c.args.who.now c.args.statement.now c.edit_of.result c.requires.good c.requires.written (returns-clause-tested c)
