use Rattle.std.proofs.Common.{◌≡◌}
use Rattle.std.proofs.lemmas.Result.{on_ok_weaker}
use Rattle.cat_items.specs.Rights.{path_of}
use Rattle.cascade_laws.specs.Topics as topics
use Rattle.cascade_laws.specs.Topics.{Topic}
use Rattle.topic_keys.proofs.Adding.{adds_both}
use Rattle.topic_keys.proofs.names.put_column_names.Goals as goal

pub returns : goal.returns
returns c = on_ok_weaker c.put_optional_domain.result (adds_both (λ t. t ≡ topics.table (path_of c.args.column.now.table)) (topics.IsOptionalDomainTopic c.args.column.now.domain) c.args.keys.now.items c.put_table.new.keys.items c.put_optional_domain.new.keys.items c.in_ok-put_table.ensures) c.put_optional_domain.ensures
