use Rattle.std.proofs.Common.{Some, ap, subst}
use Rattle.edit_rules.specs.First.{IsTested}
use Rattle.statement_steps.specs.Steps.{refusals_of}
use Rattle.domain_edits.specs.AlteredDomains.{default_steps}
use Rattle.domain_edits.proofs.altering.set_default.Goals as goal

pub returns : goal.returns
returns c =
    let items = c.args.c.now.items in
    let o = c.args.domain in
    subst (λ d. IsTested (refusals_of items c.args.who.now (default_steps items o d)) (default_steps items o d).edit c.edit_of.result) (ap Some c.in_ok-copy.ensures) c.edit_of.ensures
