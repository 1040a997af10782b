use Rattle.std.proofs.Common.{◌≡◌, ◌+◌, ◌≤◌, length, arith}
use Rattle.catalogue_changes.proofs.Changed.{exchange}
use Rattle.catalogue_changes.proofs.Lengths.{exchanged_length, no_longer}
use Rattle.catalogue_changes.proofs.change.count_after.Goals as goal

pub overflow_sub-result : goal.overflow_sub-result
overflow_sub-result c =
    let is = c.requires.1 in
    rw (c.items.ensures.items, c.items-2.ensures.items)
    (no_longer c.args.c.now.items c.args.change.now.leaving.items c.items.ensures.order is.leaving_order is.leaving)

pub returns : goal.returns
returns c = λ new is.
    let old = c.args.c.now.items in
    let out = c.args.change.now.leaving.items in
    let more = c.args.change.now.coming.items in
    let long : length new + length out ≡ length old + length more = exchanged_length old out more new (exchange old new c.args.change.now c.items.ensures.order is) in
    let few : length out ≤ length old = no_longer old out c.items.ensures.order is.leaving_order is.leaving in
    rw (c.items.ensures.items, c.items-2.ensures.items, c.items-3.ensures.items) (omega (arith, long, few))
