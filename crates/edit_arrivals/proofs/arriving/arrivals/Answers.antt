use Rattle.std.proofs.Common.{◌≡◌, ◌<◌, [], get_or, length, rules, sym, subst}
use Rattle.std.specs.declared.cmp.Ordering.TheVariants.{Less}
use Rattle.cat_items.specs.declared.item.Item.{Item}
use Rattle.cat_items.specs.Order.{item_cmp}
use Rattle.edit_arrivals.specs.Steps.{AreSystemRights, IsAhead}
use Rattle.edit_arrivals.proofs.Standing.{arrivals_alike, found_is_plain, suspects_listed}
use Rattle.edit_arrivals.proofs.Steps.{HaveArrived, all_arrived, arrived_more, none_yet, whole_arrived}
use Rattle.edit_arrivals.proofs.Walking.{ahead_more, next_ahead}
use Rattle.edit_arrivals.proofs.arriving.arrivals.Goals as goal

pub loop-x-init : goal.loop-x-init
loop-x-init c = record {
  arrived = subst (HaveArrived c.args.found.now.items []) (sym c.new-arrivals.ensures.items) (none_yet c.args.found.now.items);
  ahead = search rules;
}

pub put_arrival-requires-clause-rights : goal.put_arrival-requires-clause-rights
put_arrival-requires-clause-rights c = subst (AreSystemRights c.args.found.now.items) (sym c.as_slice.ensures.value) (record { order = c.in_ok-rights.ensures.order; members = c.in_ok-rights.ensures.members })

pub put_arrival-requires-clause-ahead : goal.put_arrival-requires-clause-ahead
put_arrival-requires-clause-ahead c =
    let suspects = c.args.suspects.now.items in
    let i = c.loop-x.x-index in
    let x = c.x-item.result in
    let same = c.items-x-items.ensures.items in
    let low : i < length suspects = subst (λ l. i < length l) same c.loop-x-test.true in
    let is : x ≡ get_or suspects i x = subst (λ l. x ≡ get_or l i x) same c.x-item.is in
    subst (λ l. IsAhead c.args.found.now.items l c.loop-x.walks x) (sym c.as_slice.ensures.value) (next_ahead c.args.found.now.items c.in_ok-rights.rights.items c.loop-x.walks suspects i x low is c.loop-x.invariant.ahead)

pub loop-x-preserved : goal.loop-x-preserved
loop-x-preserved c =
    let found = c.args.found.now.items in
    let suspects = c.args.suspects.now.items in
    let i = c.loop-x.x-index in
    let x = c.x-item.result in
    let same = c.items-x-items.ensures.items in
    let low : i < length suspects = subst (λ l. i < length l) same c.loop-x-test.true in
    let is : x ≡ get_or suspects i x = subst (λ l. x ≡ get_or l i x) same c.x-item.is in
    record {
      arrived =
          arrived_more found suspects c.items-x-items.result.now c.loop-x.arrivals.items c.put_arrival.new.arrivals.items i x c.items-x-items.ensures.order same c.loop-x-test.true c.x-item.is
          c.loop-x.invariant.arrived c.in_ok-put_arrival.ensures.put;
      ahead =
          ahead_more found c.in_ok-rights.rights.items c.loop-x.walks c.put_arrival.new.walks suspects i x c.items-x-items.ensures.order low is
          (subst (λ l. (y : Item) → item_cmp x y ≡ Less → IsAhead found l c.loop-x.walks y → IsAhead found l c.put_arrival.new.walks y) c.as_slice.ensures.value c.in_ok-put_arrival.ensures.ahead)
          c.loop-x.invariant.ahead;
    }

pub returns-clause-found : goal.returns-clause-found
returns-clause-found c = λ suspect.
    all_arrived c.args.found.now.items c.args.suspects.now.items suspect c.loop-x.arrivals.items
    (whole_arrived c.args.found.now.items c.args.suspects.now.items c.items-x-items.result.now c.loop-x.arrivals.items c.loop-x.x-index c.items-x-items.ensures.items c.loop-x-test.false c.loop-x.invariant.arrived)

pub returns-clause-standing : goal.returns-clause-standing
returns-clause-standing c = λ old all edited f part standing edit suspect by are.
    let found = c.args.found.now.items in
    let suspects = c.args.suspects.now.items in
    arrivals_alike old all edited f part found standing edit suspect by c.loop-x.arrivals.items
    (all_arrived found suspects suspect c.loop-x.arrivals.items
    (whole_arrived found suspects c.items-x-items.result.now c.loop-x.arrivals.items c.loop-x.x-index c.items-x-items.ensures.items c.loop-x-test.false c.loop-x.invariant.arrived)
    (found_is_plain old f part found standing suspect by.is_found)
    (suspects_listed old edited f part found standing suspect by.with_system by.is_found suspects are))
