use Rattle.std.proofs.Common.{◌≡◌, false}
use Rattle.std.proofs.lemmas.Result.{on_ok_weaker}
use Rattle.cascade_laws.specs.Topics.{IsAuthTopic}
use Rattle.topic_keys.proofs.Adding.{adds_alike}
use Rattle.topic_lists.proofs.named.put_auth_unless.Goals as goal

pub returns-else-known : goal.returns-else-known
returns-else-known c =
    let P = IsAuthTopic c.args.auth.now in
    on_ok_weaker c.put_auth.result
    (adds_alike P (λ t. (c.args.known ≡ false) × P t) c.args.keys.now.items c.put_auth.new.keys.items (λ t. (λ h. (c.if-known.false, h), λ h. h.1)))
    c.put_auth.ensures
