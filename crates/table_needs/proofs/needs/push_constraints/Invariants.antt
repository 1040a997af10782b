use Rattle.std.proofs.Common.{take}
use Rattle.std.specs.List.{Any}
use Rattle.table_needs.specs.Needs.{IsConstraintNeed}
use Rattle.table_needs.proofs.NeedLemmas.{Gain}
use Rattle.table_needs.proofs.needs.push_constraints.Given as goal

abbrev pub invariant-loop-x : goal.invariant-loop-x
invariant-loop-x l = record { gains : Gain l.initial.needs l.needs (λ need. Any (IsConstraintNeed need) (take l.x-index l.made)) }
