use Rattle.std.proofs.Common.{◌≡◌, subst}
use Rattle.cat_items.specs.declared.item.Domain.{Domain}
use Rattle.edit_rules.specs.First.{IsTested}
use Rattle.statement_steps.specs.Steps.{refusals_of}
use Rattle.domain_edits.specs.CreatedDomains.{MakesDomain, domain_of, steps_of_domain}
use Rattle.domain_edits.proofs.NewDomains.{created_soundly}
use Rattle.domain_edits.proofs.creating.create_domain.Goals as goal

pub returns-clause-tested : goal.returns-clause-tested
returns-clause-tested c =
    let items = c.args.c.now.items in
    let who = c.args.who.now in
    let s = c.args.statement.now in
    let is : ◌≡◌ {A = Domain} (record { domain = c.in_ok-object_in.field-0; sort = s.sort; default = s.default }) (domain_of who s) = (λ i. record { domain = c.in_ok-object_in.ensures i; sort = s.sort; default = s.default }) in
    subst (λ (d : Domain). IsTested (refusals_of items who (steps_of_domain items who d s.checks)) (MakesDomain items who d s.checks) c.edit_of.result) is c.edit_of.ensures

pub returns-clause-sound : goal.returns-clause-sound
returns-clause-sound c = created_soundly c.args.c.now.items c.args.who.now c.args.statement.now c.edit_of.result c.requires.good c.requires.written (returns-clause-tested c)
