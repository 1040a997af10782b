use Rattle.std.proofs.Common.{subst}
use Rattle.sql_names.specs.declared.object.Object.{Object}
use Rattle.edit_rules.specs.First.{IsTested}
use Rattle.statement_steps.specs.Steps.{refusals_of}
use Rattle.table_additions.specs.Additions.{steps_of_parts}
use Rattle.table_additions.proofs.altering.add_parts.Goals as goal

pub returns : goal.returns
returns c =
    let items = c.args.c.now.items in
    let who = c.args.who.now in
    let all = c.args.all in
    subst (λ (o : Object). IsTested (refusals_of items who (steps_of_parts items who o all)) (steps_of_parts items who o all).edit c.edit_of.result) c.in_ok-object_in.ensures c.edit_of.ensures
