use Rattle.std.proofs.Common.{[], ◌∷◌}
use Rattle.edit_rules.specs.Names.{unknown_schema}
use Rattle.edit_rules.proofs.FirstLaws.{exit_of_first, tested_by_others}
use Rattle.statement_steps.specs.Resolving.{unresolved_name}
use Rattle.routine_edit.specs.CreatedRoutines.{body_in}
use Rattle.routine_edit.specs.Making.{IsNamedBody}
use Rattle.routine_edit.proofs.making.NewRoutineMaking.names.Goals as goal

pub returns-in_err-test_schema : goal.returns-in_err-test_schema
returns-in_err-test_schema c =
    let signature = c.args.self.now.signature in
    let outcome = body_in c.args.c.now.items c.args.who.now signature c.args.self.now.body.now in
    exit_of_first (unknown_schema c.args.c.now.items signature.routine.schema ∷ []) (unresolved_name outcome ∷ []) (λ (v : Unit {0}). Unit {0}) (IsNamedBody signature outcome) c.in_err-test_schema.field-0.0 c.from_residual.result c.from_residual.ensures.1 c.in_err-test_schema.ensures

pub returns : goal.returns
returns c =
    let signature = c.args.self.now.signature in
    let outcome = body_in c.args.c.now.items c.args.who.now signature c.args.self.now.body.now in
    tested_by_others (unknown_schema c.args.c.now.items signature.routine.schema ∷ []) (unresolved_name outcome ∷ []) (IsNamedBody signature outcome) c.named_body.result c.in_ok-test_schema.ensures.0 c.named_body.ensures
