use Rattle.topic_keys.specs.Homes.{IsHome, IsHomeOf}
use Rattle.topic_keys.proofs.Adding.{adds_all}
use Rattle.topic_keys.proofs.HomeLaws.{homes_are}
use Rattle.topic_keys.proofs.OrderLaws.{keys_in_order, keys_known}
use Rattle.topic_keys.proofs.under.homes.Goals as goal

pub in_order-requires : goal.in_order-requires
in_order-requires c =
    keys_known (IsHome c.args.x.now) c.put_homes.new.keys.items
    (λ k. (adds_all (IsHomeOf c.args.x.now) (IsHome c.args.x.now) c.new-keys.result.items c.put_homes.new.keys.items c.new-keys.ensures.items (homes_are c.args.x.now) c.in_ok-put_homes.ensures k).0)

pub returns : goal.returns
returns c =
    keys_in_order (IsHome c.args.x.now) c.put_homes.new.keys.items c.in_order.result.items c.from_vec.result
    (adds_all (IsHomeOf c.args.x.now) (IsHome c.args.x.now) c.new-keys.result.items c.put_homes.new.keys.items c.new-keys.ensures.items (homes_are c.args.x.now) c.in_ok-put_homes.ensures)
    c.in_order.ensures c.from_vec.ensures
