use Rattle.std.proofs.Common.{Option, Some, subst, sym}
use Rattle.cat_items.specs.declared.item.Item.TheVariants as item
use Rattle.view_deps.specs.declared.resolve.ResolvedExpr.{ResolvedExpr}
use Rattle.table_constraints.specs.OneMade.{IsCheckBy, IsCheckItem}
use Rattle.table_constraints.proofs.checks.check_item.Goals as goal

pub returns-in_ok-new-in-Some : goal.returns-in_ok-new-in-Some
returns-in_ok-new-in-Some c =
    let table = c.args.table.now in
    let name = c.args.name.now in
    let x = c.in_ok-new-in-Some.field-0 in
    subst (λ (f : Option ResolvedExpr). IsCheckItem table name f (Some (item.Check x))) (sym c.in-Some.is)
    (subst (IsCheckBy table name c.in-Some.resolved) (sym c.in_ok-new-in-Some.ensures) c.in_ok-check-in-Some.ensures)
