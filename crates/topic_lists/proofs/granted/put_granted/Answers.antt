use Rattle.std.proofs.Common.{◌≡◌, ◌⊎◌, false}
use Rattle.std.specs.Option.{option_copied}
use Rattle.std.proofs.lemmas.Result.{on_ok_weaker}
use Rattle.cat_items.specs.declared.need.Auth.TheVariants.{Public}
use Rattle.cascade_laws.specs.Topics.{Topic, supply}
use Rattle.topic_keys.proofs.Adding.{adds_both}
use Rattle.topic_lists.specs.Granted.{IsReachTopic}
use Rattle.topic_lists.specs.RightNames.{IsRightName}
use Rattle.topic_lists.proofs.GrantLaws.{adds_granted}
use Rattle.topic_lists.proofs.granted.put_granted.Goals as goal

pub returns : goal.returns
returns c =
    let l = c.args.roles.now in
    let r = c.args.right.now in
    let by = c.args.by.now in
    let known = c.is_granted.result in
    let all = c.is_alike.result in
    let P = λ (t : Topic). (known ≡ false) × (t ≡ supply r.need Public) in
    let Q = λ (t : Topic). (all ≡ false) × IsReachTopic l r.need by t in
    let old = c.args.keys.now.items in
    let first = c.put_right_names.new.keys.items in
    let second = c.put_public_unless.new.keys.items in
    let new = c.put_reach_unless.new.keys.items in
    on_ok_weaker c.put_reach_unless.result
    (λ end. adds_granted l r by (option_copied c.args.other) known all old new c.requires.by c.requires.granted c.is_granted.ensures.0 c.is_alike.ensures.0
    (adds_both (IsRightName r) (λ t. P t ⊎ Q t) old first new c.in_ok-put_right_names.ensures (adds_both P Q first second new c.in_ok-put_public_unless.ensures end)))
    c.put_reach_unless.ensures
