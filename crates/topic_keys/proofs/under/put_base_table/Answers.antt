use Rattle.std.proofs.Common.{◌≡◌}
use Rattle.std.proofs.lemmas.Result.{on_ok_weaker}
use Rattle.cat_items.specs.Rights.{path_of}
use Rattle.cascade_laws.specs.Topics as topics
use Rattle.cascade_laws.specs.Topics.{Topic}
use Rattle.topic_keys.proofs.Adding.{adds_both}
use Rattle.topic_keys.proofs.under.put_base_table.Goals as goal

pub returns : goal.returns
returns c = on_ok_weaker c.put_topic.result (adds_both (λ t. t ≡ topics.table (path_of c.args.table.now)) (λ t. t ≡ topics.base_table c.args.table.now) c.args.keys.now.items c.put_table.new.keys.items c.put_topic.new.keys.items c.in_ok-put_table.ensures) c.put_topic.ensures
