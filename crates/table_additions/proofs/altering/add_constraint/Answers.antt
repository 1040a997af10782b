use Rattle.std.proofs.Common.{List, subst}
use Rattle.edit_rules.specs.First.{IsTested}
use Rattle.edit_rules.specs.Names.{object_in}
use Rattle.statement_steps.specs.Steps.{refusals_of}
use Rattle.table_parts.specs.declared.parts.Part.{Part}
use Rattle.table_additions.specs.Additions.{steps_of_parts}
use Rattle.table_additions.proofs.altering.add_constraint.Goals as goal

pub returns : goal.returns
returns c =
    let items = c.args.c.now.items in
    let who = c.args.who.now in
    let table = object_in who.schema c.args.table.now in
    subst (λ (all : List Part). IsTested (refusals_of items who (steps_of_parts items who table all)) (steps_of_parts items who table all).edit c.add_parts.result) c.in_ok-all.ensures c.add_parts.ensures
