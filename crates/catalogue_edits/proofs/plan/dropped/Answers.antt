use Rattle.std.proofs.Common.{subst, sym}
use Rattle.sql_tree.specs.declared.statement.DropKind.{DropKind}
use Rattle.edit_rules.specs.First.{IsTested}
use Rattle.catalogue_edits.specs.Kinds.{drop_kind}
use Rattle.catalogue_edits.proofs.plan.dropped.Goals as goal

pub returns-in-Domain-clause-tested : goal.returns-in-Domain-clause-tested
returns-in-Domain-clause-tested c =
    let parts = c.args.parts.now in
    let items = c.args.c.now.items in
    let who = c.args.who.now in
    subst (λ (k : DropKind). IsTested ((drop_kind parts.behaviour k parts.object).refusals items who) ((drop_kind parts.behaviour k parts.object).makes items who) c.drop_domain.result) (sym c.in-Domain.is) c.drop_domain.ensures.tested
