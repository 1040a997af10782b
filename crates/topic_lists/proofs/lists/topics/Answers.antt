use Rattle.topic_keys.proofs.OrderLaws.{keys_in_order, keys_known}
use Rattle.topic_lists.specs.Sought.{IsTopicOf}
use Rattle.topic_lists.proofs.lists.topics.Goals as goal

pub in_order-requires : goal.in_order-requires
in_order-requires c = keys_known (IsTopicOf c.args.c.now.items c.args.x.now) c.in_ok-keys.keys.items (λ k. (c.in_ok-keys.ensures k).0)

pub returns : goal.returns
returns c = keys_in_order (IsTopicOf c.args.c.now.items c.args.x.now) c.in_ok-keys.keys.items c.in_order.result.items c.from_vec.result c.in_ok-keys.ensures c.in_order.ensures c.from_vec.ensures
