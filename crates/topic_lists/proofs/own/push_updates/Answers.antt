use Rattle.std.proofs.Common.{refl}
use Rattle.std.proofs.lemmas.Result.{on_ok_weaker}
use Rattle.cat_items.specs.Keys.{object_of}
use Rattle.cat_items.specs.Ranges.{IsView}
use Rattle.cascade_laws.specs.Topics.{IsUpdateNeedOn}
use Rattle.topic_lists.specs.Needs.{IsUpdateNeedBy}
use Rattle.topic_lists.proofs.NeedLaws.{gets_members, update_of_view}
use Rattle.topic_lists.proofs.own.push_updates.Goals as goal

pub returns-in-Some : goal.returns-in-Some
returns-in-Some c =
    let l = c.args.c.now.items in
    let r = c.args.right.now in
    let o = object_of c.in-Some.object in
    on_ok_weaker c.push_each.result
    (gets_members l (λ n y. IsView o y × IsUpdateNeedBy l r.need y n) (IsUpdateNeedOn l r) (update_of_view o r.need c.in-Some.ensures.found l r refl) c.args.needs.now.items c.push_each.new.needs.items)
    c.push_each.ensures
