use Rattle.std.proofs.Common.{◌≡◌, ◌⊎◌, false}
use Rattle.std.proofs.lemmas.Result.{on_ok_weaker}
use Rattle.cascade_laws.specs.Topics.{Topic}
use Rattle.topic_keys.specs.Names.{IsNeedColumnTopic}
use Rattle.topic_keys.proofs.Adding.{adds_alike}
use Rattle.topic_lists.specs.RightNames.{IsPlaceTopic}
use Rattle.topic_lists.proofs.named.put_column_unless.Goals as goal

pub returns-else-known : goal.returns-else-known
returns-else-known c =
    let P = λ (t : Topic). IsNeedColumnTopic c.args.need.now t ⊎ ((c.args.at ≡ false) × IsPlaceTopic c.args.need.now t) in
    on_ok_weaker c.put_column_at.result
    (adds_alike P (λ t. (c.args.known ≡ false) × P t) c.args.keys.now.items c.put_column_at.new.keys.items (λ t. (λ h. (c.if-known.false, h), λ h. h.1)))
    c.put_column_at.ensures
