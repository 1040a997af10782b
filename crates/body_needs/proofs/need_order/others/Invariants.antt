use Rattle.std.proofs.Common.{take}
use Rattle.body_needs.proofs.OtherNeeds.{AreOthers}
use Rattle.body_needs.proofs.need_order.others.Given as goal

abbrev pub invariant-loop-one : goal.invariant-loop-one
invariant-loop-one l = AreOthers l.others.items (take l.one-index l.all) l.own
