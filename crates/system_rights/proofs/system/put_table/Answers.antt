use Rattle.std.proofs.Common.{None}
use Rattle.cat_items.specs.Reach.{Has}
use Rattle.system_rights.specs.Layers.{IsAction, IsColumnAction}
use Rattle.system_rights.proofs.Added.{on_ok}
use Rattle.system_rights.proofs.Rows.{two_needs}
use Rattle.system_rights.proofs.system.put_table.Goals as goal

pub returns : goal.returns
returns c =
    on_ok c.put_columns.result _ _ (two_needs c.args.rights.now.items c.put_actions.new.rights.items c.put_columns.new.rights.items c.args.owner.now (IsAction c.args.whole.now c.args.on.now None) (λ need. Has c.args.c.now.items (IsColumnAction c.args.each.now c.args.on.now need)) c.in_ok-put_actions.ensures)
    c.put_columns.ensures
