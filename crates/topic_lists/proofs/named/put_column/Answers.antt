use Rattle.std.proofs.Common.{◌≡◌}
use Rattle.std.proofs.lemmas.Result.{on_ok_weaker}
use Rattle.cascade_laws.specs.Topics as topics
use Rattle.topic_keys.specs.Names.{IsNeedColumnTopic}
use Rattle.topic_keys.proofs.Adding.{adds_alike}
use Rattle.topic_keys.proofs.NameLaws.{column_topics}
use Rattle.topic_lists.proofs.named.put_column.Goals as goal

pub returns-in-Some : goal.returns-in-Some
returns-in-Some c =
    on_ok_weaker c.put_topic.result
    (adds_alike (λ t. t ≡ topics.column c.args.need.now.on c.in-Some.name) (IsNeedColumnTopic c.args.need.now) c.args.keys.now.items c.put_topic.new.keys.items (column_topics c.args.need.now c.in-Some.name c.in-Some.is))
    c.put_topic.ensures
