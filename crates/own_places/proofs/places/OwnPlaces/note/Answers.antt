use Rattle.std.proofs.Common.{subst}
use Rattle.std.proofs.lemmas.List.{take_all}
use Rattle.own_places.specs.Places.{HasPlaces}
use Rattle.own_places.proofs.Listed.{one_more}
use Rattle.own_places.proofs.places.OwnPlaces.note.Goals as goal

pub loop-x-preserved : goal.loop-x-preserved
loop-x-preserved c = (
  λ auth on h. c.in_ok-put_item.ensures.kept auth on (c.loop-x.invariant.0 auth on h),
  one_more c.args.items.now c.loop-x.x-index c.x-item.result c.loop-x.self c.put_item.new.self c.loop-x-test.true c.x-item.is c.loop-x.invariant.1 c.in_ok-put_item.ensures.kept c.in_ok-put_item.ensures.put,
)

pub returns-clause-noted : goal.returns-clause-noted
returns-clause-noted c = subst (λ items. HasPlaces items c.loop-x.self) (take_all c.loop-x.x-index c.args.items.now c.loop-x-test.false) c.loop-x.invariant.1
