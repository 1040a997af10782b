use Rattle.std.proofs.Common.{◌≡◌, ◌↔◌, List, [], ap, sym, subst, ◌∙◌}
use Rattle.std.specs.List.{Contains}
use Rattle.sql_names.specs.declared.object.Object.{Object}
use Rattle.cat_items.specs.declared.item.Item.{Item}
use Rattle.edit_rules.specs.First.{First, IsTested, Passes}
use Rattle.statement_steps.proofs.StepLaws.{exit_with}
use Rattle.std.specs.declared.result.Result.TheVariants.{Err}
use Rattle.table_parts.specs.Parts.{constraints_of}
use Rattle.table_names.specs.Given.{given_names}
use Rattle.table_names.specs.Named.{IsFree}
use Rattle.table_needs.proofs.NeedLemmas.{needed_as}
use Rattle.table_work.specs.declared.work.Work.{Work}
use Rattle.table_elements.specs.Found.{AreFoundFor}
use Rattle.table_elements.proofs.FoundLists.{found_for}
use Rattle.table_constraints.specs.Made.{IsConstraintMade}
use Rattle.table_additions.specs.Additions.{added_work, addition_rules, steps_of_parts}
use Rattle.table_additions.proofs.NamedTests.{IsMaking, error_for, pass_for}
use Rattle.table_additions.proofs.adding.NewPartsMaking.rules.Goals as goal

pub made_by-requires-clause-work : goal.made_by-requires-clause-work
made_by-requires-clause-work c =
    let items = c.args.c.now.items in
    let who = c.args.who.now in
    let s = c.args.self.now in
    c.requires.named.0 ∙ ap (λ (w : Work). added_work items who w.table s.parts) (sym c.requires.named.0)

pub made_by-requires-clause-found : goal.made_by-requires-clause-found
made_by-requires-clause-found c =
    let items = c.args.c.now.items in
    let who = c.args.who.now in
    let s = c.args.self.now in
    let named = c.in_ok-constraints.constraints in
    subst (λ (w : Work). AreFoundFor items who w named c.args.named.found) (sym c.requires.named.0)
    (found_for items who (added_work items who s.table s.parts) (IsFree items s.table.schema (given_names s.parts)) [] (constraints_of s.parts) named c.args.named.found c.in_ok-constraints.ensures c.requires.named.1)

pub returns-in_err-items : goal.returns-in_err-items
returns-in_err-items c =
    let items = c.args.c.now.items in
    let who = c.args.who.now in
    let s = c.args.self.now in
    let named = c.in_ok-constraints.constraints in
    let e : c.args.named.work.table ≡ s.table = ap (λ (w : Work). w.table) c.requires.named.0 in
    exit_with (steps_of_parts items who s.table s.parts).rules (IsMaking items who s.table s.parts) c.in_err-items.field-0.0 c.from_residual-in_err-items.result c.from_residual-in_err-items.ensures.1
    (error_for items s.table s.parts named c.in_ok-constraints.ensures (addition_rules items who s.table s.parts) (λ (made : List Item). (x : Item) → Contains made x ↔ IsConstraintMade items who c.args.named.work named x) (IsMaking items who s.table s.parts) c.in_err-items.field-0.0
    (subst (λ (t : Object). IsTested (addition_rules items who t s.parts named) (λ (made : List Item). (x : Item) → Contains made x ↔ IsConstraintMade items who c.args.named.work named x) (Err c.in_err-items.field-0.0)) e c.in_err-items.ensures))

pub returns : goal.returns
returns c =
    let items = c.args.c.now.items in
    let who = c.args.who.now in
    let s = c.args.self.now in
    let named = c.in_ok-constraints.constraints in
    let e : c.args.named.work.table ≡ s.table = ap (λ (w : Work). w.table) c.requires.named.0 in
    let made : (x : Item) → Contains c.in_ok-items.items x ↔ IsConstraintMade items who (added_work items who s.table s.parts) named x =
    subst (λ (w : Work). (x : Item) → Contains c.in_ok-items.items x ↔ IsConstraintMade items who w named x) c.requires.named.0 c.in_ok-items.ensures.1 in (
      pass_for items s.table s.parts named c.in_ok-constraints.ensures (addition_rules items who s.table s.parts) (subst (λ (t : Object). Passes (First (addition_rules items who t s.parts named))) e c.in_ok-items.ensures.0),
      (
        named,
        c.in_ok-constraints.ensures,
        made,
        λ need.
            let asked = c.in_ok-needs.ensures need in
            let same = needed_as who s.table s.parts (Contains c.in_ok-items.items) (IsConstraintMade items who (added_work items who s.table s.parts) named) made need in
            (λ h. same.0 (asked.0 h), λ h. asked.1 (same.1 h)),
      ),
    )
