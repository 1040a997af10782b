use Rattle.std.proofs.lemmas.Bool.{false≢true}
use Rattle.asked_parts.specs.Rounds.{Tells}
use Rattle.asked_parts.proofs.TellLaws.{none_more, none_at_all}
use Rattle.asked_parts.proofs.telling.any_tells.Goals as goal

pub loop-item-preserved : goal.loop-item-preserved
loop-item-preserved c = record {
  none = none_more (Tells c.args.part.now.items) c.args.items.now c.loop-item.item-index c.item-item.result c.loop-item.invariant.none c.loop-item-test.true c.item-item.is (λ so. false≢true (c.if-tells.ensures.1 so));
}

pub returns : goal.returns
returns c = λ _ y h so. none_at_all (Tells c.args.part.now.items) c.args.items.now c.loop-item.item-index c.loop-item-test.false c.loop-item.invariant.none y h so
