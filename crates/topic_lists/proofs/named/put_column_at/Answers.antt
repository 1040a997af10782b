use Rattle.std.proofs.Common.{◌≡◌, ◌⊎◌, false}
use Rattle.std.proofs.lemmas.Result.{on_ok_weaker}
use Rattle.topic_keys.specs.Names.{IsNeedColumnTopic}
use Rattle.topic_keys.proofs.Adding.{adds_alike}
use Rattle.topic_lists.specs.RightNames.{IsPlaceTopic}
use Rattle.topic_lists.proofs.NameLaws.{column_alone, column_and_place}
use Rattle.topic_lists.proofs.named.put_column_at.Goals as goal

pub returns-then-known : goal.returns-then-known
returns-then-known c =
    let column = IsNeedColumnTopic c.args.need.now in
    let place = IsPlaceTopic c.args.need.now in
    on_ok_weaker c.put_column.result
    (adds_alike column (λ t. column t ⊎ ((c.args.known ≡ false) × place t)) c.args.keys.now.items c.put_column.new.keys.items (λ t. column_alone c.args.known (column t) (place t) c.if-known.true))
    c.put_column.ensures

pub returns-else-known : goal.returns-else-known
returns-else-known c =
    let column = IsNeedColumnTopic c.args.need.now in
    let place = IsPlaceTopic c.args.need.now in
    on_ok_weaker c.put_place.result
    (adds_alike (λ t. column t ⊎ place t) (λ t. column t ⊎ ((c.args.known ≡ false) × place t)) c.args.keys.now.items c.put_place.new.keys.items (λ t. column_and_place c.args.known (column t) (place t) c.if-known.false))
    c.put_place.ensures
