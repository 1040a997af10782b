use Rattle.std.proofs.Common.{◌≡◌, drop, map}
use Rattle.sql_names.specs.declared.sort.Param.{Param}
use Rattle.type_rules.specs.Rules as rule
use Rattle.type_rules.proofs.parts.all_fit.Given as goal

abbrev pub invariant-loop-at : goal.invariant-loop-at
invariant-loop-at l = rule.all_pairs (map (λ (p : Param). p.sort) l.params) l.sorts ≡ rule.all_pairs (map (λ (p : Param). p.sort) (drop l.at l.params)) (drop l.at l.sorts)
