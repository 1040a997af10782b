use Rattle.cascade_laws.specs.Topics as topics
use Rattle.cascade_laws.specs.Topics.{Topic}
use Rattle.cat_items.specs.Keys.{need_of}
use Rattle.role_graph.specs.Actors.{auth_of}
use Rattle.topic_keys.proofs.Adding.{adds_as}
use Rattle.topic_keys.proofs.under.put_right.Goals as goal

pub returns : goal.returns
returns c =
    adds_as (topics.supply (need_of c.into-need.result) (auth_of c.into-grantee.result)) (topics.supply c.args.right.now.need c.args.right.now.grantee) c.put_topic.result c.args.keys.now.items c.put_topic.new.keys.items
    (λ i. topics.supply (c.into-need.ensures i) (c.into-grantee.ensures i)) c.put_topic.ensures
