use Rattle.std.proofs.Common.{◌≡◌}
use Rattle.std.proofs.lemmas.Result.{on_ok_weaker}
use Rattle.cascade_laws.specs.Asks as asks
use Rattle.cascade_laws.specs.Topics as topics
use Rattle.topic_keys.proofs.Adding.{adds_alike}
use Rattle.topic_keys.proofs.NameLaws.{first_topics}
use Rattle.topic_lists.proofs.named.put_first.Goals as goal

pub returns-in-Some : goal.returns-in-Some
returns-in-Some c =
    on_ok_weaker c.put_topic.result
    (adds_alike (λ t. t ≡ topics.schema c.in-Some.name.now) (asks.IsFirstTopic c.args.path.now) c.args.keys.now.items c.put_topic.new.keys.items (first_topics c.args.path.now c.in-Some.name.now c.in-Some.ensures))
    c.put_topic.ensures
