use Rattle.std.proofs.Common.{◌≡◌, false}
use Rattle.std.proofs.lemmas.Result.{on_ok_weaker}
use Rattle.topic_keys.proofs.Adding.{adds_alike}
use Rattle.topic_lists.specs.Granted.{IsReachTopic}
use Rattle.topic_lists.proofs.granted.put_reach_unless.Goals as goal

pub returns-else-known : goal.returns-else-known
returns-else-known c =
    let P = IsReachTopic c.args.roles.now c.args.need.now c.args.by.now in
    on_ok_weaker c.put_reach.result
    (adds_alike P (λ t. (c.args.known ≡ false) × P t) c.args.keys.now.items c.put_reach.new.keys.items (λ t. (λ h. (c.if-known.false, h), λ h. h.1)))
    c.put_reach.ensures
