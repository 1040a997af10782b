use Rattle.cascade_laws.specs.Topics.{supply}
use Rattle.cat_items.specs.Keys.{need_of}
use Rattle.role_graph.specs.Actors.{auth_of}
use Rattle.topic_keys.proofs.Adding.{adds_as}
use Rattle.topic_lists.proofs.sought.put_supply.Goals as goal

pub returns : goal.returns
returns c =
    adds_as (supply (need_of c.into-need.result) (auth_of c.into-grantee.result)) (supply c.args.need.now c.args.grantee.now) c.put_topic.result c.args.keys.now.items c.put_topic.new.keys.items
    (λ i. supply (c.into-need.ensures i) (c.into-grantee.ensures i)) c.put_topic.ensures
