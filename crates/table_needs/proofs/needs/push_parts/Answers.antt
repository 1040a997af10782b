use Rattle.table_needs.specs.Needs.{IsPartNeed}
use Rattle.table_needs.proofs.NeedLemmas.{gain_all, gain_begin, gain_more}
use Rattle.table_needs.proofs.needs.push_parts.Goals as goal

pub loop-part-init : goal.loop-part-init
loop-part-init c = record { gains = gain_begin (IsPartNeed c.args.who.now) c.args.parts.now c.args.needs.now }

pub loop-part-preserved : goal.loop-part-preserved
loop-part-preserved c = record {
  gains = gain_more (IsPartNeed c.args.who.now) c.args.parts.now c.args.needs.now c.loop-part.needs c.push_part.new.needs c.loop-part.part-index c.part-item.result
      (rw c.as_slice-part-items.ensures at c.loop-part-test.true) (rw c.as_slice-part-items.ensures at c.part-item.is) c.loop-part.invariant.gains c.in_ok-push_part.ensures;
}

pub returns : goal.returns
returns c = gain_all (IsPartNeed c.args.who.now) c.args.parts.now c.args.needs.now c.loop-part.needs c.loop-part.part-index (rw c.as_slice-part-items.ensures at c.loop-part-test.false) c.loop-part.invariant.gains
