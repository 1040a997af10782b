use Rattle.std.proofs.Common.{◌⊎◌}
use Rattle.std.proofs.lemmas.Result.{on_ok_weaker}
use Rattle.cascade_laws.specs.Asks.{IsFirstTopic}
use Rattle.cascade_laws.specs.Topics.{IsNeedTopic}
use Rattle.topic_keys.specs.Names.{IsNeedColumnTopic}
use Rattle.topic_keys.proofs.Adding.{adds_alike, adds_both}
use Rattle.topic_lists.specs.RightNames.{IsPlaceTopic}
use Rattle.topic_lists.proofs.NameLaws.{place_topics}
use Rattle.topic_lists.proofs.named.put_place.Goals as goal

pub returns : goal.returns
returns c =
    let need = c.args.need.now in
    let old = c.args.keys.now.items in
    let new = c.put_first.new.keys.items in
    on_ok_weaker c.put_first.result
    (λ end. adds_alike (λ t. IsNeedTopic need t ⊎ IsFirstTopic need.on t) (λ t. IsNeedColumnTopic need t ⊎ IsPlaceTopic need t) old new (place_topics need)
    (adds_both (IsNeedTopic need) (IsFirstTopic need.on) old c.put_need.new.keys.items new c.in_ok-put_need.ensures end))
    c.put_first.ensures
