use Rattle.std.proofs.Common.{◌≡◌, ◌⊎◌}
use Rattle.std.proofs.lemmas.Result.{on_ok_weaker}
use Rattle.cascade_laws.specs.Topics as topics
use Rattle.cascade_laws.specs.Topics.{Topic}
use Rattle.topic_keys.proofs.Adding.{adds_both}
use Rattle.topic_keys.proofs.names.put_target.Goals as goal

pub returns : goal.returns
returns c = on_ok_weaker c.put_topic-2.result (λ last. adds_both (λ t. t ≡ topics.base_table c.args.foreign.now.target) (λ t. (topics.IsColumnTopic c.args.foreign.now.target c.args.foreign.now.target_columns) t ⊎ (t ≡ topics.key c.args.foreign.now.key)) c.args.keys.now.items c.put_topic.new.keys.items c.put_topic-2.new.keys.items c.in_ok-put_topic.ensures (adds_both (topics.IsColumnTopic c.args.foreign.now.target c.args.foreign.now.target_columns) (λ t. t ≡ topics.key c.args.foreign.now.key) c.put_topic.new.keys.items c.put_columns.new.keys.items c.put_topic-2.new.keys.items c.in_ok-put_columns.ensures last)) c.put_topic-2.ensures
