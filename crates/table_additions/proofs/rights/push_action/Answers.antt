use Rattle.std.proofs.lemmas.Result.{on_ok_weaker}
use Rattle.cat_items.specs.Keys.{object_of}
use Rattle.table_additions.proofs.AddedRights.{action_gains}
use Rattle.table_additions.proofs.rights.push_action.Goals as goal

pub returns : goal.returns
returns c =
    on_ok_weaker c.push_rights-2.result
    (action_gains c.args.c.now.items c.args.table.now c.args.name.now c.args.action (object_of c.into.result) c.items_in.result.now c.items_in-2.result.now c.args.all.now c.push_rights.new.all c.push_rights-2.new.all c.into.ensures
    c.items_in.ensures.members c.items_in-2.ensures.members c.in_ok-push_rights.ensures)
    c.push_rights-2.ensures
