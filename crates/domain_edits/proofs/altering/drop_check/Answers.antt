use Rattle.std.proofs.Common.{subst}
use Rattle.edit_rules.specs.First.{IsTested}
use Rattle.statement_steps.specs.Steps.{refusals_of}
use Rattle.domain_edits.specs.declared.dropping.DroppedCheck.{DroppedCheck}
use Rattle.domain_edits.specs.AlteredDomains.{drop_steps}
use Rattle.domain_edits.proofs.altering.drop_check.Goals as goal

pub returns : goal.returns
returns c =
    let items = c.args.c.now.items in
    subst (λ (x : DroppedCheck). IsTested (refusals_of items c.args.who.now (drop_steps items x.domain x.name)) (drop_steps items x.domain x.name).edit c.edit_of.result) c.in_ok-dropped.ensures c.edit_of.ensures
