use Rattle.std.proofs.Common.{◌≡◌, ◌⊎◌, ◌<◌, take}
use Rattle.std.specs.Fmt.{decimal}
use Rattle.table_names.proofs.numbers.number_of.Given as goal

abbrev pub invariant-loop-digit : goal.invariant-loop-digit
invariant-loop-digit l = record { read : ((l.digit-index ≡ 0) × (l.number ≡ 0)) ⊎ ((0 < l.number) × (decimal l.number ≡ take l.digit-index l.digits)) }
