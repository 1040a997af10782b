use Rattle.std.proofs.Common.{sym, subst}
use Rattle.sql_tree.specs.declared.statement.AlterDomainAction.{AlterDomainAction}
use Rattle.edit_rules.specs.First.{IsTested}
use Rattle.statement_steps.specs.Steps.{refusals_of}
use Rattle.domain_edits.specs.AlteredDomains.{alteration_steps}
use Rattle.domain_edits.proofs.altering.alter.Goals as goal

pub returns-in-SetDefault : goal.returns-in-SetDefault
returns-in-SetDefault c =
    let items = c.args.c.now.items in
    let who = c.args.who.now in
    let o = c.args.domain in
    subst (λ (a : AlterDomainAction). IsTested (refusals_of items who (alteration_steps items who o a)) (alteration_steps items who o a).edit c.set_default.result) (sym c.in-SetDefault.is) c.set_default.ensures

pub returns-in-DropDefault : goal.returns-in-DropDefault
returns-in-DropDefault c =
    let items = c.args.c.now.items in
    let who = c.args.who.now in
    let o = c.args.domain in
    subst (λ (a : AlterDomainAction). IsTested (refusals_of items who (alteration_steps items who o a)) (alteration_steps items who o a).edit c.drop_default.result) (sym c.in-DropDefault.is) c.drop_default.ensures

pub returns-in-AddCheck : goal.returns-in-AddCheck
returns-in-AddCheck c =
    let items = c.args.c.now.items in
    let who = c.args.who.now in
    let o = c.args.domain in
    subst (λ (a : AlterDomainAction). IsTested (refusals_of items who (alteration_steps items who o a)) (alteration_steps items who o a).edit c.add_check.result) (sym c.in-AddCheck.is) c.add_check.ensures

pub returns-in-DropConstraint : goal.returns-in-DropConstraint
returns-in-DropConstraint c =
    let items = c.args.c.now.items in
    let who = c.args.who.now in
    let o = c.args.domain in
    subst (λ (a : AlterDomainAction). IsTested (refusals_of items who (alteration_steps items who o a)) (alteration_steps items who o a).edit c.drop_check.result) (sym c.in-DropConstraint.is) c.drop_check.ensures
