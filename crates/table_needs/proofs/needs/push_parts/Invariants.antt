use Rattle.std.proofs.Common.{take}
use Rattle.std.specs.List.{Any}
use Rattle.table_needs.specs.Needs.{IsPartNeed}
use Rattle.table_needs.proofs.NeedLemmas.{Gain}
use Rattle.table_needs.proofs.needs.push_parts.Given as goal

abbrev pub invariant-loop-part : goal.invariant-loop-part
invariant-loop-part l = record { gains : Gain l.initial.needs l.needs (λ need. Any (IsPartNeed l.who need) (take l.part-index l.parts)) }
