use Rattle.std.proofs.Common.{subst}
use Rattle.sql_names.specs.declared.object.Object.{Object}
use Rattle.edit_rules.specs.First.{IsTested}
use Rattle.statement_steps.specs.Steps.{refusals_of}
use Rattle.domain_edits.specs.AlteredDomains.{alteration_steps}
use Rattle.domain_edits.proofs.Alterations.{altered_soundly}
use Rattle.domain_edits.proofs.altering.alter_domain.Goals as goal

pub returns-clause-tested : goal.returns-clause-tested
returns-clause-tested c =
    let items = c.args.c.now.items in
    let who = c.args.who.now in
    let action = c.args.statement.now.action in
    subst (λ (o : Object). IsTested (refusals_of items who (alteration_steps items who o action)) (alteration_steps items who o action).edit c.alter.result) c.in_ok-domain.ensures c.alter.ensures

pub returns-clause-sound : goal.returns-clause-sound
returns-clause-sound c = altered_soundly c.args.c.now.items c.args.who.now c.args.statement.now c.alter.result c.requires.good c.requires.written (returns-clause-tested c)
