use Rattle.topic_lists.specs.Sought.{IsSupplyTopic}
use Rattle.topic_keys.specs.Lists.{IsKeyWhere}
use Rattle.topic_keys.proofs.Adding.{each_begin, each_end, each_more}
use Rattle.topic_lists.proofs.Runs.{adds_of_any}
use Rattle.topic_lists.proofs.sought.put_supplies.Goals as goal

pub loop-grantee-init : goal.loop-grantee-init
loop-grantee-init c = record { put = each_begin (λ a. IsKeyWhere (IsSupplyTopic c.args.need.now a)) c.args.reached.now c.args.keys.now.items }

pub loop-grantee-preserved : goal.loop-grantee-preserved
loop-grantee-preserved c = record {
  put = each_more (λ a. IsKeyWhere (IsSupplyTopic c.args.need.now a)) c.args.reached.now c.args.keys.now.items c.loop-grantee.keys.items c.put_supply.new.keys.items c.loop-grantee.grantee-index c.grantee-item.result c.loop-grantee-test.true c.grantee-item.is c.loop-grantee.invariant.put c.in_ok-put_supply.ensures;
}

pub returns : goal.returns
returns c =
    adds_of_any (IsSupplyTopic c.args.need.now) c.args.reached.now c.args.keys.now.items c.loop-grantee.keys.items
    (each_end (λ a. IsKeyWhere (IsSupplyTopic c.args.need.now a)) c.args.reached.now c.args.keys.now.items c.loop-grantee.keys.items c.loop-grantee.grantee-index c.loop-grantee-test.false c.loop-grantee.invariant.put)
