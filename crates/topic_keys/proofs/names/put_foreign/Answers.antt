use Rattle.std.proofs.Common.{◌⊎◌}
use Rattle.std.proofs.lemmas.Result.{on_ok_weaker}
use Rattle.cascade_laws.specs.Topics as topics
use Rattle.cascade_laws.specs.Topics.{Topic}
use Rattle.cat_items.specs.declared.item.Item.TheVariants as item
use Rattle.topic_keys.specs.Names.{IsConstraintTopic, IsTargetTopic}
use Rattle.topic_keys.proofs.NameLaws.{foreign_topics}
use Rattle.topic_keys.proofs.Adding.{adds_alike, adds_both}
use Rattle.topic_keys.proofs.names.put_foreign.Goals as goal

pub returns : goal.returns
returns c = on_ok_weaker c.put_target.result (λ last. adds_alike (λ t. IsConstraintTopic c.args.foreign.now.name c.args.foreign.now.table c.args.foreign.now.columns t ⊎ IsTargetTopic c.args.foreign.now t) (topics.IsNameTopic (item.Foreign c.args.foreign.now)) c.args.keys.now.items c.put_target.new.keys.items (foreign_topics c.args.foreign.now) (adds_both (IsConstraintTopic c.args.foreign.now.name c.args.foreign.now.table c.args.foreign.now.columns) (IsTargetTopic c.args.foreign.now) c.args.keys.now.items c.put_constraint.new.keys.items c.put_target.new.keys.items c.in_ok-put_constraint.ensures last)) c.put_target.ensures
