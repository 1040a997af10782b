use Rattle.std.proofs.Common.{refl}
use Rattle.asked_parts.specs.Rounds.{IsGiven}
use Rattle.asked_parts.proofs.TellLaws.{all_more, all_at_all}
use Rattle.asked_parts.proofs.telling.all_given.Goals as goal

pub loop-item-preserved : goal.loop-item-preserved
loop-item-preserved c = record {
  all = all_more IsGiven c.args.items.now c.loop-item.item-index c.item-item.result c.loop-item.invariant.all c.loop-item-test.true c.item-item.is (c.if-not-is_given.ensures.0 refl);
}

pub returns : goal.returns
returns c = λ _ y h. all_at_all IsGiven c.args.items.now c.loop-item.item-index c.loop-item-test.false c.loop-item.invariant.all y h
