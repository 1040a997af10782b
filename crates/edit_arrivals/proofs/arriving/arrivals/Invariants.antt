use Rattle.std.proofs.Common.{take}
use Rattle.edit_arrivals.proofs.Steps.{HaveArrived}
use Rattle.edit_arrivals.proofs.Walking.{AreAhead}
use Rattle.edit_arrivals.proofs.arriving.arrivals.Given as goal

abbrev pub invariant-loop-x : goal.invariant-loop-x
invariant-loop-x l = record {
  arrived : HaveArrived l.found.items (take l.x-index l.suspects.items) l.arrivals.items;
  ahead : AreAhead l.found.items l.rights.items l.walks l.suspects.items l.x-index;
}
