use Rattle.std.proofs.Common.{◌≡◌, ◌⊎◌}
use Rattle.std.proofs.lemmas.Result.{on_ok_weaker}
use Rattle.cascade_laws.specs.Topics as topics
use Rattle.cascade_laws.specs.Topics.{Topic}
use Rattle.topic_keys.proofs.Adding.{adds_both}
use Rattle.topic_keys.proofs.names.put_constraint.Goals as goal

pub returns : goal.returns
returns c = on_ok_weaker c.put_columns.result (λ last. adds_both (λ t. t ≡ topics.schema c.args.name.now.schema) (λ t. (t ≡ topics.base_table c.args.table.now) ⊎ (topics.IsColumnTopic c.args.table.now c.args.columns.now) t) c.args.keys.now.items c.put_topic.new.keys.items c.put_columns.new.keys.items c.in_ok-put_topic.ensures (adds_both (λ t. t ≡ topics.base_table c.args.table.now) (topics.IsColumnTopic c.args.table.now c.args.columns.now) c.put_topic.new.keys.items c.put_topic-2.new.keys.items c.put_columns.new.keys.items c.in_ok-put_topic-2.ensures last)) c.put_columns.ensures
