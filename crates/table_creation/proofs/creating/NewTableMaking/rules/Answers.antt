use Rattle.std.proofs.Common.{◌↔◌, List, Ok, Err, ◌∙◌, ap, sym, subst}
use Rattle.std.specs.List.{Contains}
use Rattle.cat_items.specs.declared.item.Item.{Item}
use Rattle.edit_rules.specs.First.{IsTested}
use Rattle.table_work.specs.declared.work.Work.{Work}
use Rattle.table_elements.specs.Found.{AreFoundFor}
use Rattle.table_constraints.specs.Made.{IsConstraintMade}
use Rattle.table_creation.specs.Made.{AreMadeFor}
use Rattle.table_creation.specs.Tables.{IsNewConstraint, rules_over, work_with}
use Rattle.table_creation.specs.declared.new_table.MadeConstraints.{MadeConstraints}
use Rattle.table_creation.proofs.NewTables.{found_for_named, made_for, rules_passed, rules_told}
use Rattle.table_creation.proofs.creating.NewTableMaking.rules.Goals as goal

pub tested_constraints-requires : goal.tested_constraints-requires
tested_constraints-requires c =
    let items = c.args.c.now.items in
    let who = c.args.who.now in
    let t = c.args.self.now in
    subst (λ (w : Work). AreFoundFor items who w c.in_ok-constraints.constraints c.args.named) (sym (c.in_ok-w.ensures ∙ ap (work_with items who t.table t.parts) c.in_ok-keys.ensures))
    (found_for_named items who t.table t.parts c.in_ok-constraints.constraints c.in_ok-constraints.ensures c.args.named c.requires.named)

pub returns-in_err-items : goal.returns-in_err-items
returns-in_err-items c =
    let items = c.args.c.now.items in
    let who = c.args.who.now in
    let t = c.args.self.now in
    let named = c.in_ok-constraints.constraints in
    rules_told items who t.table t.parts named c.in_ok-constraints.ensures (λ made. (x : Item) → Contains made x ↔ IsNewConstraint items who t.table t.parts named x) (λ (m : MadeConstraints). AreMadeFor items who t.table t.parts m.items m.needs)
    c.in_err-items.field-0.0 c.from_residual-in_err-items.result c.from_residual-in_err-items.ensures.1
    (subst (λ (w : Work). IsTested {T = List Item} (rules_over items who w t.parts named) (λ made. (x : Item) → Contains made x ↔ IsConstraintMade items who w named x) (Err c.in_err-items.field-0.0))
    (c.in_ok-w.ensures ∙ ap (work_with items who t.table t.parts) c.in_ok-keys.ensures) c.in_err-items.ensures)

pub returns : goal.returns
returns c =
    let items = c.args.c.now.items in
    let who = c.args.who.now in
    let t = c.args.self.now in
    let named = c.in_ok-constraints.constraints in
    let is = c.in_ok-w.ensures ∙ ap (work_with items who t.table t.parts) c.in_ok-keys.ensures in
    let tested = subst (λ (w : Work). IsTested {T = List Item} (rules_over items who w t.parts named) (λ made. (x : Item) → Contains made x ↔ IsConstraintMade items who w named x) (Ok c.in_ok-items.items)) is c.in_ok-items.ensures in (
      rules_passed items who t.table t.parts named c.in_ok-constraints.ensures tested.0,
      made_for items who t.table t.parts named c.in_ok-items.items c.in_ok-needs.needs c.in_ok-constraints.ensures tested.1 c.in_ok-needs.ensures,
    )
