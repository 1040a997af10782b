use Rattle.std.proofs.Common.{◌∙◌, ap, sym}
use Rattle.cat_items.specs.declared.item.Item.TheVariants as item
use Rattle.system_rights.proofs.Added.{on_ok}
use Rattle.system_rights.proofs.Rows.{table_added, plain_added, view_added, domain_added, routine_added}
use Rattle.system_rights.proofs.system.put_rows.Goals as goal

pub returns-in-Table : goal.returns-in-Table
returns-in-Table c = on_ok c.put_table.result _ _ (table_added c.args.c.now.items c.args.rights.now.items c.put_table.new.rights.items c.args.owner.now c.args.x.now c.get.result.now (c.in-Table.is ∙ ap item.Table (sym c.get.ensures))) c.put_table.ensures

pub returns-in-Domain : goal.returns-in-Domain
returns-in-Domain c = on_ok c.put_actions.result _ _ (domain_added c.args.c.now.items c.args.rights.now.items c.put_actions.new.rights.items c.args.owner.now c.args.x.now c.get-in-Domain.result.now (c.in-Domain.is ∙ ap item.Domain (sym c.get-in-Domain.ensures))) c.put_actions.ensures

pub returns-in-Routine : goal.returns-in-Routine
returns-in-Routine c = on_ok c.put_actions-in-Routine.result _ _ (routine_added c.args.c.now.items c.args.rights.now.items c.put_actions-in-Routine.new.rights.items c.args.owner.now c.args.x.now c.get-in-Routine.result.now (c.in-Routine.is ∙ ap item.Routine (sym c.get-in-Routine.ensures))) c.put_actions-in-Routine.ensures

pub returns-in-None : goal.returns-in-None
returns-in-None c = on_ok c.put_table-in-None.result _ _ (view_added c.args.c.now.items c.args.rights.now.items c.put_table-in-None.new.rights.items c.args.owner.now c.args.x.now c.get-view.result.now c.in-None.is (c.in-View.is ∙ ap item.View (sym c.get-view.ensures))) c.put_table-in-None.ensures

pub returns-in-Some : goal.returns-in-Some
returns-in-Some c = on_ok c.put_table-in-Some.result _ _ (plain_added c.args.c.now.items c.args.rights.now.items c.put_table-in-Some.new.rights.items c.args.owner.now c.args.x.now c.get-view.result.now c.in-Some.field-0 c.in-Some.is (c.in-View.is ∙ ap item.View (sym c.get-view.ensures))) c.put_table-in-Some.ensures
