use Rattle.std.proofs.Common.{◌≡◌, length}
use Rattle.std.specs.List.{list_all}
use Rattle.sql_grammar.specs.RightsRules.{is_action_on}
use Rattle.sql_grammar.proofs.rights.all_fit.Given as goal

abbrev pub invariant-loop-left : goal.invariant-loop-left
invariant-loop-left l = list_all (λ p. is_action_on l.kind p.action) l.listed ≡ list_all (λ p. is_action_on l.kind p.action) l.left

abbrev pub decreases-loop-left : goal.decreases-loop-left
decreases-loop-left l = length l.left
