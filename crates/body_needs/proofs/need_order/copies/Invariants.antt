use Rattle.std.proofs.Common.{◌≡◌, take}
use Rattle.body_needs.proofs.need_order.copies.Given as goal

abbrev pub invariant-loop-one : goal.invariant-loop-one
invariant-loop-one l = l.copies.items ≡ take l.one-index l.all
