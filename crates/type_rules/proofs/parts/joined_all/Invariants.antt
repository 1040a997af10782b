use Rattle.std.proofs.Common.{◌≡◌, drop}
use Rattle.type_rules.specs.TypeParts as spec
use Rattle.type_rules.proofs.parts.joined_all.Given as goal

abbrev pub invariant-loop-one : goal.invariant-loop-one
invariant-loop-one l = spec.joined_all l.fn.first l.all ≡ spec.joined_all l.sort (drop l.one-index l.all)
