use Rattle.std.proofs.lemmas.Result.{on_ok_weaker}
use Rattle.cascade_laws.specs.Topics as topics
use Rattle.cascade_laws.specs.Topics.{Topic}
use Rattle.topic_keys.specs.Names.{IsNeedColumnTopic}
use Rattle.topic_keys.proofs.Adding.{adds_both}
use Rattle.topic_keys.proofs.names.put_need.Goals as goal

pub returns : goal.returns
returns c = on_ok_weaker c.put_need_column.result (adds_both (topics.IsObjectTopic c.args.need.now.action c.args.need.now.on) (IsNeedColumnTopic c.args.need.now) c.args.keys.now.items c.put_object.new.keys.items c.put_need_column.new.keys.items c.in_ok-put_object.ensures) c.put_need_column.ensures
