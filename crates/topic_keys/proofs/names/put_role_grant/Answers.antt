use Rattle.std.proofs.Common.{◌≡◌, ◌⊎◌}
use Rattle.std.proofs.lemmas.Result.{on_ok_weaker}
use Rattle.cascade_laws.specs.Topics as topics
use Rattle.cascade_laws.specs.Topics.{Topic}
use Rattle.topic_keys.proofs.Adding.{adds_both}
use Rattle.topic_keys.proofs.names.put_role_grant.Goals as goal

pub returns : goal.returns
returns c = on_ok_weaker c.put_auth.result (λ last. adds_both (λ t. t ≡ topics.role_named c.args.grant.now.role) (λ t. (t ≡ topics.authorization c.args.grant.now.grantee) ⊎ (topics.IsAuthTopic c.args.grant.now.grantor) t) c.args.keys.now.items c.put_topic.new.keys.items c.put_auth.new.keys.items c.in_ok-put_topic.ensures (adds_both (λ t. t ≡ topics.authorization c.args.grant.now.grantee) (topics.IsAuthTopic c.args.grant.now.grantor) c.put_topic.new.keys.items c.put_topic-2.new.keys.items c.put_auth.new.keys.items c.in_ok-put_topic-2.ensures last)) c.put_auth.ensures
