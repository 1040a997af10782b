use Rattle.std.proofs.Common.{◌≡◌, false}
use Rattle.std.proofs.lemmas.Result.{on_ok_weaker}
use Rattle.topic_keys.proofs.Adding.{gets_alike}
use Rattle.topic_lists.specs.Needs.{IsFarNeed}
use Rattle.topic_lists.proofs.lists.push_far_unless.Goals as goal

pub returns-else-known : goal.returns-else-known
returns-else-known c =
    let far = IsFarNeed c.args.c.now.items c.args.x.now in
    on_ok_weaker c.push_far.result (gets_alike far (λ need. (c.args.known ≡ false) × far need) c.args.needs.now.items c.push_far.new.needs.items (λ need. (λ h. (c.if-known.false, h), λ h. h.1))) c.push_far.ensures
