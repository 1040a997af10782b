use Rattle.std.proofs.lemmas.Result.{on_ok_weaker}
use Rattle.cascade_laws.specs.Topics.{IsNeedTopic}
use Rattle.topic_keys.proofs.Adding.{adds_both}
use Rattle.topic_lists.specs.Sought.{IsOfAny, IsSupplyTopic}
use Rattle.topic_lists.proofs.sought.put_need_and_supplies.Goals as goal

pub returns : goal.returns
returns c =
    on_ok_weaker c.put_supplies.result
    (adds_both (IsNeedTopic c.args.need.now) (IsOfAny (IsSupplyTopic c.args.need.now) c.args.reached.now) c.args.keys.now.items c.put_need.new.keys.items c.put_supplies.new.keys.items c.in_ok-put_need.ensures)
    c.put_supplies.ensures
