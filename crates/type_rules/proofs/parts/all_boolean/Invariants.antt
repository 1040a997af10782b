use Rattle.std.proofs.Common.{◌≡◌, drop}
use Rattle.type_rules.specs.TypeParts as spec
use Rattle.type_rules.proofs.parts.all_boolean.Given as goal

abbrev pub invariant-loop-one : goal.invariant-loop-one
invariant-loop-one l = spec.all_boolean l.all ≡ spec.all_boolean (drop l.one-index l.all)
