use Rattle.std.proofs.Common.{[], arith}
use Rattle.system_rights.specs.Layers.{IsSystemRightOn}
use Rattle.system_rights.proofs.Added.{loop_more}
use Rattle.system_rights.proofs.Rows.{all_objects}
use Rattle.system_rights.proofs.system.system_items.Goals as goal

pub loop-x-preserved : goal.loop-x-preserved
loop-x-preserved c = record {
  added = loop_more [] c.loop-x.rights.items c.put_object.new.rights.items c.args.c.now.items 0 c.loop-x.x-index (IsSystemRightOn c.args.c.now.items) c.x-item.result c.loop-x.invariant.added c.in_ok-put_object.ensures
      (omega arith) (rw c.items-x-items.ensures.items at c.loop-x-test.true) (rw c.items-x-items.ensures.items at c.x-item.is);
}

pub returns-clause-members : goal.returns-clause-members
returns-clause-members c = rw c.into_items.ensures.items (all_objects c.args.c.now.items c.loop-x.rights.items c.loop-x.x-index (rw c.items-x-items.ensures.items at c.loop-x-test.false) c.loop-x.invariant.added)
