use Rattle.std.proofs.Common.{List, [], ◌∷◌, subst}
use Rattle.sql_names.specs.declared.object.Object.{Object}
use Rattle.sql_tree.specs.declared.table.DomainCheck.{DomainCheck}
use Rattle.edit_rules.specs.First.{IsTested}
use Rattle.statement_steps.specs.Steps.{refusals_of}
use Rattle.domain_edits.specs.AlteredDomains.{check_steps}
use Rattle.domain_edits.proofs.altering.add_check.Goals as goal

pub returns : goal.returns
returns c =
    let items = c.args.c.now.items in
    let who = c.args.who.now in
    let added = c.in_ok-added.added in
    subst (λ (o : Object). IsTested (refusals_of items who (check_steps items who o (c.args.check.now ∷ []))) (check_steps items who o (c.args.check.now ∷ [])).edit c.edit_of.result) c.in_ok-added.ensures.domain
    (subst (λ (l : List DomainCheck). IsTested (refusals_of items who (check_steps items who added.domain l)) (check_steps items who added.domain l).edit c.edit_of.result) c.in_ok-added.ensures.checks c.edit_of.ensures)
