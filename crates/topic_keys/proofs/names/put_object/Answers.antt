use Rattle.std.proofs.Common.{◌≡◌}
use Rattle.std.proofs.lemmas.Result.{on_ok_weaker}
use Rattle.cascade_laws.specs.Topics as topics
use Rattle.topic_keys.proofs.Adding.{adds_alike}
use Rattle.topic_keys.proofs.NameLaws.{table_topics}
use Rattle.topic_keys.proofs.names.put_object.Goals as goal

pub returns-in-Usage : goal.returns-in-Usage
returns-in-Usage c = rw c.in-Usage.is c.put_topic.ensures

pub returns-in-Execute : goal.returns-in-Execute
returns-in-Execute c = rw c.in-Execute.is c.put_topic-in-Execute.ensures

pub returns-in_default : goal.returns-in_default
returns-in_default c =
    on_ok_weaker c.put_topic-in_default.result
    (adds_alike (λ t. t ≡ topics.table c.args.need.now.on) (topics.IsObjectTopic c.args.need.now.action c.args.need.now.on) c.args.keys.now.items c.put_topic-in_default.new.keys.items
    (table_topics c.args.need.now.action c.args.need.now.on c.in_default.not-Usage c.in_default.not-Execute c.in_default.not-Admin))
    c.put_topic-in_default.ensures
