use Rattle.std.proofs.lemmas.Result.{on_ok_weaker}
use Rattle.table_additions.proofs.AddedRights.{actions_gain}
use Rattle.table_additions.proofs.rights.push_actions.Goals as goal

pub returns : goal.returns
returns c =
    on_ok_weaker c.push_action-4.result
    (actions_gain c.args.c.now.items c.args.table.now c.args.name.now c.args.all.now c.push_action.new.all c.push_action-2.new.all c.push_action-3.new.all c.push_action-4.new.all
    c.in_ok-push_action.ensures c.in_ok-push_action-2.ensures c.in_ok-push_action-3.ensures)
    c.push_action-4.ensures
