use Rattle.topic_lists.specs.Sought.{IsNeedOrSupply}
use Rattle.topic_keys.specs.Lists.{IsKeyWhere}
use Rattle.topic_keys.proofs.Adding.{each_begin, each_end, each_more}
use Rattle.topic_lists.proofs.Runs.{adds_of_any}
use Rattle.topic_lists.proofs.sought.put_needs.Goals as goal

pub loop-need-init : goal.loop-need-init
loop-need-init c = record { put = each_begin (λ a. IsKeyWhere (IsNeedOrSupply c.args.reached.now a)) c.args.needs.now c.args.keys.now.items }

pub loop-need-preserved : goal.loop-need-preserved
loop-need-preserved c = record {
  put = each_more (λ a. IsKeyWhere (IsNeedOrSupply c.args.reached.now a)) c.args.needs.now c.args.keys.now.items c.loop-need.keys.items c.put_need_and_supplies.new.keys.items c.loop-need.need-index c.need-item.result c.loop-need-test.true c.need-item.is c.loop-need.invariant.put c.in_ok-put_need_and_supplies.ensures;
}

pub returns : goal.returns
returns c =
    adds_of_any (IsNeedOrSupply c.args.reached.now) c.args.needs.now c.args.keys.now.items c.loop-need.keys.items
    (each_end (λ a. IsKeyWhere (IsNeedOrSupply c.args.reached.now a)) c.args.needs.now c.args.keys.now.items c.loop-need.keys.items c.loop-need.need-index c.loop-need-test.false c.loop-need.invariant.put)
