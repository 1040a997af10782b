use Rattle.std.proofs.Common.{◌≡◌, drop}
use Rattle.type_rules.specs.Rules as rule
use Rattle.type_rules.proofs.parts.all_of_class.Given as goal

abbrev pub invariant-loop-one : goal.invariant-loop-one
invariant-loop-one l = rule.all_of_class l.a l.all ≡ rule.all_of_class l.a (drop l.one-index l.all)
