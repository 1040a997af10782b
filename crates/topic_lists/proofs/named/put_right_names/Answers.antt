use Rattle.std.proofs.Common.{◌≡◌, ◌⊎◌, false}
use Rattle.std.specs.Option.{option_copied}
use Rattle.std.proofs.lemmas.Result.{on_ok_weaker}
use Rattle.cascade_laws.specs.Topics.{Topic, IsAuthTopic}
use Rattle.topic_keys.specs.Names.{IsNeedColumnTopic}
use Rattle.topic_keys.proofs.Adding.{adds_both}
use Rattle.topic_lists.specs.RightNames.{IsPlaceTopic}
use Rattle.topic_lists.proofs.NameLaws.{adds_names}
use Rattle.topic_lists.proofs.named.put_right_names.Goals as goal

pub returns : goal.returns
returns c =
    let r = c.args.right.now in
    let other = option_copied c.args.other in
    let of = c.is_of.result in
    let at = c.is_at.result in
    let to = c.is_to.result in
    let by = c.is_by.result in
    let P = λ (t : Topic). (of ≡ false) × (IsNeedColumnTopic r.need t ⊎ ((at ≡ false) × IsPlaceTopic r.need t)) in
    let Q = λ (t : Topic). (to ≡ false) × IsAuthTopic r.grantee t in
    let R = λ (t : Topic). (by ≡ false) × IsAuthTopic r.grantor t in
    let old = c.args.keys.now.items in
    let first = c.put_column_unless.new.keys.items in
    let second = c.put_auth_unless.new.keys.items in
    let new = c.put_auth_unless-2.new.keys.items in
    on_ok_weaker c.put_auth_unless-2.result
    (λ end. adds_names of at to by r other old c.requires new c.is_of.ensures.0 c.is_at.ensures.0 c.is_to.ensures.0 c.is_by.ensures.0
    (adds_both P (λ t. Q t ⊎ R t) old first new c.in_ok-put_column_unless.ensures (adds_both Q R first second new c.in_ok-put_auth_unless.ensures end)))
    c.put_auth_unless-2.ensures
