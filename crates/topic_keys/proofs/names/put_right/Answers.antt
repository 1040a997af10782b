use Rattle.std.proofs.lemmas.Result.{on_ok_weaker}
use Rattle.cascade_laws.specs.Topics as topics
use Rattle.cascade_laws.specs.Topics.{Topic}
use Rattle.topic_keys.proofs.Adding.{adds_both}
use Rattle.topic_keys.proofs.names.put_right.Goals as goal

pub returns : goal.returns
returns c = on_ok_weaker c.put_parties.result (adds_both (topics.IsNeedTopic c.args.right.now.need) (topics.IsPartyTopic c.args.right.now.grantor c.args.right.now.grantee) c.args.keys.now.items c.put_need.new.keys.items c.put_parties.new.keys.items c.in_ok-put_need.ensures) c.put_parties.ensures
