use Rattle.std.proofs.Common.{◌≡◌}
use Rattle.cat_items.specs.Edits.{IsNew}
use Rattle.catalogue_edits.specs.Revisions.{IsRevised}
use Rattle.catalogue_edits.proofs.Outcomes.{few_by_edit, outcome_exit, revised}
use Rattle.catalogue_edits.proofs.revisions.revise.Goals as goal

pub returns-in_err-change-clause-tested : goal.returns-in_err-change-clause-tested
returns-in_err-change-clause-tested g c =
    let old = c.args.store.now in
    let edit = c.in_ok-plan.plan.edit in
    let planned = rw c.catalogue.ensures.items at c.in_ok-plan.ensures.planned in
    outcome_exit c.args.limits.now old c.args.who.now c.args.statement.now edit c.in_ok-plan.plan.restrict (λ (u : Unit {0}). IsNew old edit c.change.new.self) (λ warning. IsRevised old c.args.who.now c.args.statement.now warning c.change.new.self)
    (c.change.new.self ≡ old) c.in_err-change.field-0.0 c.from_residual-in_err-change.result c.from_residual-in_err-change.ensures.1 planned.1.restrict planned.0 planned.1.edit c.in_err-change.ensures.tested

pub returns-clause-tested : goal.returns-clause-tested
returns-clause-tested g c =
    let planned = rw c.catalogue.ensures.items at c.in_ok-plan.ensures.planned in
    revised c.args.limits.now c.args.store.now c.args.who.now c.args.statement.now c.in_ok-plan.plan.edit c.in_ok-plan.plan.restrict c.in_ok-plan.plan.warning c.change.new.self planned.1.restrict planned.0 planned.1.edit planned.1.warning
    c.in_ok-change.ensures.tested.0 c.in_ok-change.ensures.tested.1

pub returns-in_err-change-clause-idle : goal.returns-in_err-change-clause-idle
returns-in_err-change-clause-idle g c =
    let planned = rw c.catalogue.ensures.items at c.in_ok-plan.ensures.planned in
    λ none. absurd (none c.in_ok-plan.plan.edit (record { passes = planned.0; is_edit = planned.1.edit }))

pub returns-in_err-change-clause-few : goal.returns-in_err-change-clause-few
returns-in_err-change-clause-few g c =
    let planned = rw c.catalogue.ensures.items at c.in_ok-plan.ensures.planned in
    few_by_edit c.args.store.now c.args.who.now c.args.statement.now c.in_ok-plan.plan.edit c.args.steps.now c.change.new.steps planned.1.edit c.in_err-change.ensures.few

pub returns-clause-idle : goal.returns-clause-idle
returns-clause-idle g c =
    let planned = rw c.catalogue.ensures.items at c.in_ok-plan.ensures.planned in
    λ none. absurd (none c.in_ok-plan.plan.edit (record { passes = planned.0; is_edit = planned.1.edit }))

pub returns-clause-few : goal.returns-clause-few
returns-clause-few g c =
    let planned = rw c.catalogue.ensures.items at c.in_ok-plan.ensures.planned in
    few_by_edit c.args.store.now c.args.who.now c.args.statement.now c.in_ok-plan.plan.edit c.args.steps.now c.change.new.steps planned.1.edit c.in_ok-change.ensures.few
