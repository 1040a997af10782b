use Rattle.std.proofs.Common.{[], take}
use Rattle.std.specs.List.{Any}
use Rattle.table_needs.specs.Needs.{IsAsked}
use Rattle.table_needs.proofs.NeedLemmas.{Gain}
use Rattle.table_needs.proofs.needs.without_own.Given as goal

abbrev pub invariant-loop-one : goal.invariant-loop-one
invariant-loop-one l = record { left : Gain [] l.left (λ need. Any (IsAsked l.table l.parts need) (take l.one-index l.needs)) }
