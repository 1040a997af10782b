use Rattle.std.proofs.Common.{◌≡◌}
use Rattle.std.proofs.lemmas.Result.{on_ok_weaker}
use Rattle.cat_items.specs.declared.need.Auth.TheVariants.{Named}
use Rattle.cascade_laws.specs.Topics.{edges, supply}
use Rattle.topic_keys.proofs.Adding.{adds_both}
use Rattle.topic_lists.proofs.granted.put_to.Goals as goal

pub returns : goal.returns
returns c =
    on_ok_weaker c.put_topic.result
    (adds_both (λ t. t ≡ supply c.args.need.now (Named c.args.to.now)) (λ t. t ≡ edges c.args.to.now) c.args.keys.now.items c.put_supply.new.keys.items c.put_topic.new.keys.items c.in_ok-put_supply.ensures)
    c.put_topic.ensures
