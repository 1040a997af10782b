use Rattle.std.proofs.Common.{◌≡◌, take}
use Rattle.sql_tree.proofs.expr.+same.Given as goal

abbrev pub invariant-same::same_conjunctions-loop-at : goal.invariant-same::same_conjunctions-loop-at
invariant-same::same_conjunctions-loop-at l = take l.at l.all ≡ take l.at l.others

abbrev pub invariant-same::same_negations-loop-at : goal.invariant-same::same_negations-loop-at
invariant-same::same_negations-loop-at l = take l.at l.all ≡ take l.at l.others

abbrev pub invariant-same::same_exprs-loop-at : goal.invariant-same::same_exprs-loop-at
invariant-same::same_exprs-loop-at l = take l.at l.all ≡ take l.at l.others

abbrev pub invariant-same::same_added-loop-at : goal.invariant-same::same_added-loop-at
invariant-same::same_added-loop-at l = take l.at l.all ≡ take l.at l.others

abbrev pub invariant-same::same_multiplied-loop-at : goal.invariant-same::same_multiplied-loop-at
invariant-same::same_multiplied-loop-at l = take l.at l.all ≡ take l.at l.others

abbrev pub invariant-same::same_arms-loop-at : goal.invariant-same::same_arms-loop-at
invariant-same::same_arms-loop-at l = take l.at l.all ≡ take l.at l.others

abbrev pub invariant-same::same_further-loop-at : goal.invariant-same::same_further-loop-at
invariant-same::same_further-loop-at l = take l.at l.all ≡ take l.at l.others

abbrev pub invariant-same::same_select_items-loop-at : goal.invariant-same::same_select_items-loop-at
invariant-same::same_select_items-loop-at l = take l.at l.all ≡ take l.at l.others

abbrev pub invariant-same::same_chains-loop-at : goal.invariant-same::same_chains-loop-at
invariant-same::same_chains-loop-at l = take l.at l.all ≡ take l.at l.others

abbrev pub invariant-same::same_joins-loop-at : goal.invariant-same::same_joins-loop-at
invariant-same::same_joins-loop-at l = take l.at l.all ≡ take l.at l.others
