use Rattle.std.proofs.Common.{◌≡◌, drop}
use Rattle.type_rules.specs.Rules as spec
use Rattle.type_rules.proofs.rules.fraction.Given as goal

abbrev pub invariant-loop-at : goal.invariant-loop-at
invariant-loop-at l = spec.fraction l.text ≡ spec.fraction (drop l.at l.text)
