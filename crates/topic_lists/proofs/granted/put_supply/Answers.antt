use Rattle.cat_items.specs.declared.need.Auth.TheVariants.{Named}
use Rattle.cascade_laws.specs.Topics.{supply}
use Rattle.cat_items.specs.Keys.{need_of}
use Rattle.topic_keys.proofs.Adding.{adds_as}
use Rattle.topic_lists.proofs.granted.put_supply.Goals as goal

pub returns : goal.returns
returns c =
    adds_as (supply (need_of c.into-need.result) (Named c.args.to.now)) (supply c.args.need.now (Named c.args.to.now)) c.put_topic.result c.args.keys.now.items c.put_topic.new.keys.items
    (λ i. supply (c.into-need.ensures i) (Named c.args.to.now)) c.put_topic.ensures
