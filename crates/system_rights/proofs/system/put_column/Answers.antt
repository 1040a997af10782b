use Rattle.system_rights.proofs.Added.{on_ok}
use Rattle.system_rights.proofs.Rows.{one_column, column_rows}
use Rattle.system_rights.proofs.system.put_column.Goals as goal

pub returns-in-Column : goal.returns-in-Column
returns-in-Column c =
    on_ok c.put_actions.result _ _ (one_column c.args.rights.now.items c.put_actions.new.rights.items c.args.owner.now c.args.on.now c.args.actions.now c.args.x.now c.get.result.now.name (column_rows c.args.actions.now c.args.on.now c.args.x.now c.in-Column.column c.get.result.now c.in-Column.is c.get.ensures c.requires))
    c.put_actions.ensures
