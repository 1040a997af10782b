use Rattle.std.proofs.lemmas.Result.{on_ok_weaker}
use Rattle.cat_items.specs.Keys.{object_of}
use Rattle.cat_items.specs.Ranges.{IsRoutineOf, IsView}
use Rattle.topic_lists.specs.Needs.{IsCarriedBy, IsFarNeedOn}
use Rattle.topic_lists.proofs.NeedLaws.{far_of_routine, far_of_view, gets_members}
use Rattle.topic_lists.proofs.carried.push_by_object.Goals as goal

pub returns-in-Select : goal.returns-in-Select
returns-in-Select c =
    let l = c.args.c.now.items in
    let by = c.args.need.now in
    let o = object_of c.in-Some.object in
    on_ok_weaker c.push_each.result
    (gets_members l (λ n y. IsView o y × IsCarriedBy y n) (IsFarNeedOn by) (far_of_view o by c.in-Some.ensures.found c.in-Select.is) c.args.needs.now.items c.push_each.new.needs.items)
    c.push_each.ensures

pub returns-in-None-column : goal.returns-in-None-column
returns-in-None-column c =
    let l = c.args.c.now.items in
    let by = c.args.need.now in
    let o = object_of c.in-Some.object in
    on_ok_weaker c.push_each-in-None-column.result
    (gets_members l (λ n y. IsRoutineOf o y × IsCarriedBy y n) (IsFarNeedOn by) (far_of_routine o by c.in-Some.ensures.found c.in-Execute.is c.in-None-column.is) c.args.needs.now.items c.push_each-in-None-column.new.needs.items)
    c.push_each-in-None-column.ensures
