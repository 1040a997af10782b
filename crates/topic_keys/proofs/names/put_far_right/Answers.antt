use Rattle.std.proofs.Common.{◌⊎◌}
use Rattle.std.proofs.lemmas.Result.{on_ok_weaker}
use Rattle.cascade_laws.specs.Topics as topics
use Rattle.cascade_laws.specs.Asks as asks
use Rattle.cascade_laws.specs.Topics.{Topic}
use Rattle.topic_keys.proofs.Adding.{adds_both}
use Rattle.topic_keys.proofs.names.put_far_right.Goals as goal

pub returns : goal.returns
returns c = on_ok_weaker c.put_auth-2.result (λ last. adds_both (asks.IsFirstTopic c.args.right.now.need.on) (λ t. (topics.IsAuthTopic c.args.right.now.grantee) t ⊎ (topics.IsAuthTopic c.args.right.now.grantor) t) c.args.keys.now.items c.put_first.new.keys.items c.put_auth-2.new.keys.items c.in_ok-put_first.ensures (adds_both (topics.IsAuthTopic c.args.right.now.grantee) (topics.IsAuthTopic c.args.right.now.grantor) c.put_first.new.keys.items c.put_auth.new.keys.items c.put_auth-2.new.keys.items c.in_ok-put_auth.ensures last)) c.put_auth-2.ensures
