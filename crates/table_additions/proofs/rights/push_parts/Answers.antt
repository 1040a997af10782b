use Rattle.table_additions.specs.Additions.{IsRightOfPart}
use Rattle.table_additions.proofs.Gains.{gain_all, gain_begin, gain_more}
use Rattle.table_additions.proofs.rights.push_parts.Goals as goal

pub loop-part-init : goal.loop-part-init
loop-part-init c = record { gains = gain_begin (IsRightOfPart c.args.c.now.items c.args.table.now) c.args.parts.now c.args.all.now }

pub loop-part-preserved : goal.loop-part-preserved
loop-part-preserved c = record {
  gains = gain_more (IsRightOfPart c.args.c.now.items c.args.table.now) c.args.parts.now c.args.all.now c.loop-part.all c.push_part.new.all c.loop-part.part-index c.part-item.result
      (rw c.as_slice-part-items.ensures at c.loop-part-test.true) (rw c.as_slice-part-items.ensures at c.part-item.is) c.loop-part.invariant.gains c.in_ok-push_part.ensures;
}

pub returns : goal.returns
returns c = gain_all (IsRightOfPart c.args.c.now.items c.args.table.now) c.args.parts.now c.args.all.now c.loop-part.all c.loop-part.part-index (rw c.as_slice-part-items.ensures at c.loop-part-test.false) c.loop-part.invariant.gains
