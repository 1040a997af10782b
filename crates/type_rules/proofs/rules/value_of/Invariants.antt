use Rattle.std.proofs.Common.{◌≡◌, drop}
use Rattle.type_rules.specs.Rules as spec
use Rattle.type_rules.proofs.rules.value_of.Given as goal

abbrev pub invariant-loop-byte : goal.invariant-loop-byte
invariant-loop-byte l = spec.up_to_bigint (spec.value_from 0 l.text) ≡ spec.up_to_bigint (spec.value_from l.value (drop l.byte-index l.text))
