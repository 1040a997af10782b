use Rattle.std.proofs.Common.{◌≡◌}
use Rattle.std.proofs.lemmas.Result.{on_ok_weaker}
use Rattle.cat_items.specs.Rights.{path_of}
use Rattle.cascade_laws.specs.Topics as topics
use Rattle.cascade_laws.specs.Topics.{Topic}
use Rattle.topic_keys.proofs.Adding.{adds_both}
use Rattle.topic_keys.proofs.names.put_domain_check.Goals as goal

pub returns : goal.returns
returns c = on_ok_weaker c.put_domain.result (adds_both (λ t. t ≡ topics.schema c.args.check.now.name.schema) (λ t. t ≡ topics.domain (path_of c.args.check.now.domain)) c.args.keys.now.items c.put_topic.new.keys.items c.put_domain.new.keys.items c.in_ok-put_topic.ensures) c.put_domain.ensures
