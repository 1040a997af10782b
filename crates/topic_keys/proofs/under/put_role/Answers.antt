use Rattle.std.proofs.Common.{◌≡◌}
use Rattle.std.proofs.lemmas.Result.{on_ok_weaker}
use Rattle.cascade_laws.specs.Topics as topics
use Rattle.cascade_laws.specs.Topics.{Topic}
use Rattle.topic_keys.proofs.Adding.{adds_both}
use Rattle.topic_keys.proofs.under.put_role.Goals as goal

pub returns : goal.returns
returns c = on_ok_weaker c.put_topic-2.result (adds_both (λ t. t ≡ topics.authorization c.args.name.now) (λ t. t ≡ topics.role_named c.args.name.now) c.args.keys.now.items c.put_topic.new.keys.items c.put_topic-2.new.keys.items c.in_ok-put_topic.ensures) c.put_topic-2.ensures
