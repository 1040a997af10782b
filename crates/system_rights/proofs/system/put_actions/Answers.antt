use Rattle.std.proofs.Common.{◌≡◌, get_or, subst, arith}
use Rattle.std.proofs.lemmas.List.{get_or_default}
use Rattle.std.specs.Option.{option_copied}
use Rattle.sql_tree.specs.declared.rights.Action.{Action}
use Rattle.sql_tree.specs.declared.rights.Action.TheVariants.{Select}
use Rattle.cat_items.specs.declared.need.Need.{Need}
use Rattle.system_rights.specs.Layers.{IsAdded, IsToOwner}
use Rattle.system_rights.proofs.Added.{loop_begin, loop_more}
use Rattle.system_rights.proofs.Rows.{IsOneAction, actions_end}
use Rattle.system_rights.proofs.system.put_actions.Goals as goal

pub loop-action-init : goal.loop-action-init
loop-action-init c = record { added = loop_begin _ c.args.actions.now 0 (λ a. IsToOwner c.args.owner.now (IsOneAction c.args.on.now (option_copied c.args.column) a)) }

pub loop-action-preserved : goal.loop-action-preserved
loop-action-preserved c =
    let a : Action = get_or c.args.actions.now c.loop-action.action-index Select in
    record {
      added = loop_more c.args.rights.now.items c.loop-action.rights.items c.put_both.new.rights.items c.args.actions.now 0 c.loop-action.action-index (λ a. IsToOwner c.args.owner.now (IsOneAction c.args.on.now (option_copied c.args.column) a)) a c.loop-action.invariant.added
          (subst (λ (m : Need). IsAdded c.loop-action.rights.items c.put_both.new.rights.items (IsToOwner c.args.owner.now (λ n. n ≡ m))) c.in_ok-need_on.ensures c.in_ok-put_both.ensures) (omega arith) (omega (arith, c.loop-action-test.true)) (get_or_default c.args.actions.now c.loop-action.action-index Select a (omega (arith, c.loop-action-test.true)));
    }

pub returns : goal.returns
returns c = actions_end c.args.rights.now.items c.loop-action.rights.items c.args.owner.now c.args.on.now (option_copied c.args.column) c.args.actions.now _ (omega arith) c.loop-action.invariant.added
