use Rattle.std.proofs.Common.{◌≡◌, [], drop}
use Rattle.type_rules.specs.Rules as rule
use Rattle.type_rules.proofs.parts.joined_columns.Given as goal

abbrev pub invariant-loop-at : goal.invariant-loop-at
invariant-loop-at l = rule.joined_pairs [] l.a l.b ≡ rule.joined_pairs l.out (drop l.at l.a) (drop l.at l.b)
