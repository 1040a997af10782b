use Rattle.topic_lists.specs.Granted.{IsToTopic}
use Rattle.topic_keys.specs.Lists.{IsKeyWhere}
use Rattle.topic_keys.proofs.Adding.{each_begin, each_end, each_more}
use Rattle.topic_lists.proofs.Runs.{adds_of_any}
use Rattle.topic_lists.proofs.granted.put_to_each.Goals as goal

pub loop-to-init : goal.loop-to-init
loop-to-init c = record { put = each_begin (λ a. IsKeyWhere (IsToTopic c.args.need.now a)) c.args.names.now c.args.keys.now.items }

pub loop-to-preserved : goal.loop-to-preserved
loop-to-preserved c = record {
  put = each_more (λ a. IsKeyWhere (IsToTopic c.args.need.now a)) c.args.names.now c.args.keys.now.items c.loop-to.keys.items c.put_to.new.keys.items c.loop-to.to-index c.to-item.result c.loop-to-test.true c.to-item.is c.loop-to.invariant.put c.in_ok-put_to.ensures;
}

pub returns : goal.returns
returns c =
    adds_of_any (IsToTopic c.args.need.now) c.args.names.now c.args.keys.now.items c.loop-to.keys.items
    (each_end (λ a. IsKeyWhere (IsToTopic c.args.need.now a)) c.args.names.now c.args.keys.now.items c.loop-to.keys.items c.loop-to.to-index c.loop-to-test.false c.loop-to.invariant.put)
