use Rattle.std.proofs.Common.{take}
use Rattle.std.specs.List.{Any}
use Rattle.table_additions.specs.Additions.{IsRightOfPart}
use Rattle.table_additions.proofs.Gains.{Gain}
use Rattle.table_additions.proofs.rights.push_parts.Given as goal

abbrev pub invariant-loop-part : goal.invariant-loop-part
invariant-loop-part l = record { gains : Gain l.initial.all l.all (λ x. Any (IsRightOfPart l.c.items l.table x) (take l.part-index l.parts)) }
