use Rattle.std.proofs.Common.{◌≡◌}
use Rattle.std.proofs.lemmas.Result.{on_ok_weaker}
use Rattle.cat_items.specs.Rights.{path_of}
use Rattle.cascade_laws.specs.Topics as topics
use Rattle.cascade_laws.specs.Topics.{Topic}
use Rattle.topic_keys.proofs.Adding.{adds_both}
use Rattle.topic_keys.proofs.under.put_column_of.Goals as goal

pub returns : goal.returns
returns c = on_ok_weaker c.put_column.result (adds_both (λ t. t ≡ topics.columns c.args.column.now.table) (λ t. t ≡ topics.column (path_of c.args.column.now.table) c.args.column.now.name) c.args.keys.now.items c.put_topic.new.keys.items c.put_column.new.keys.items c.in_ok-put_topic.ensures) c.put_column.ensures
