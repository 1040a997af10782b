use Rattle.std.proofs.Common.{◌≡◌, false}
use Rattle.std.proofs.lemmas.Result.{on_ok_weaker}
use Rattle.cat_items.specs.declared.need.Auth.TheVariants.{Public}
use Rattle.cascade_laws.specs.Topics.{Topic, supply}
use Rattle.topic_keys.proofs.Adding.{adds_alike}
use Rattle.topic_lists.proofs.granted.put_public_unless.Goals as goal

pub returns-else-known : goal.returns-else-known
returns-else-known c =
    let P = λ (t : Topic). t ≡ supply c.args.need.now Public in
    on_ok_weaker c.put_public.result
    (adds_alike P (λ t. (c.args.known ≡ false) × P t) c.args.keys.now.items c.put_public.new.keys.items (λ t. (λ h. (c.if-known.false, h), λ h. h.1)))
    c.put_public.ensures
