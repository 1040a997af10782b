use Rattle.cat_items.specs.declared.need.Auth.TheVariants.{Public}
use Rattle.cascade_laws.specs.Topics.{supply}
use Rattle.cat_items.specs.Keys.{need_of}
use Rattle.topic_keys.proofs.Adding.{adds_as}
use Rattle.topic_lists.proofs.granted.put_public.Goals as goal

pub returns : goal.returns
returns c =
    adds_as (supply (need_of c.into-need.result) Public) (supply c.args.need.now Public) c.put_topic.result c.args.keys.now.items c.put_topic.new.keys.items
    (λ i. supply (c.into-need.ensures i) Public) c.put_topic.ensures
