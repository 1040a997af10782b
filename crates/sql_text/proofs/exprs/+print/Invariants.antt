use Rattle.std.proofs.Common.{◌≡◌, ◌++◌, take, map, codes}
use Rattle.std.specs.List.{flat_map}
use Rattle.sql_text.specs.Printing as spec
use Rattle.sql_text.proofs.exprs.+print.Given as goal

abbrev pub invariant-put_exprs-loop-one : goal.invariant-put_exprs-loop-one
invariant-put_exprs-loop-one l = l.out ≡ l.initial.out ++ flat_map (λ u. codes ", " ++ u) (map spec.expr_text (take l.one-index l.rest))

abbrev pub invariant-put_conjunctions-loop-one : goal.invariant-put_conjunctions-loop-one
invariant-put_conjunctions-loop-one l = l.out ≡ l.initial.out ++ flat_map (λ u. codes " OR " ++ u) (map spec.conjunction_text (take l.one-index l.rest))

abbrev pub invariant-put_negations-loop-one : goal.invariant-put_negations-loop-one
invariant-put_negations-loop-one l = l.out ≡ l.initial.out ++ flat_map (λ u. codes " AND " ++ u) (map spec.negation_text (take l.one-index l.rest))

abbrev pub invariant-put_select_items-loop-one : goal.invariant-put_select_items-loop-one
invariant-put_select_items-loop-one l = l.out ≡ l.initial.out ++ flat_map (λ u. codes ", " ++ u) (map spec.select_item_text (take l.one-index l.rest))

abbrev pub invariant-put_chains-loop-one : goal.invariant-put_chains-loop-one
invariant-put_chains-loop-one l = l.out ≡ l.initial.out ++ flat_map (λ u. codes ", " ++ u) (map spec.chain_text (take l.one-index l.rest))

abbrev pub invariant-put_added_terms-loop-one : goal.invariant-put_added_terms-loop-one
invariant-put_added_terms-loop-one l = l.out ≡ l.initial.out ++ flat_map (λ t. t) (map spec.added_text (take l.one-index l.all))

abbrev pub invariant-put_multiplied_factors-loop-one : goal.invariant-put_multiplied_factors-loop-one
invariant-put_multiplied_factors-loop-one l = l.out ≡ l.initial.out ++ flat_map (λ t. t) (map spec.multiplied_text (take l.one-index l.all))

abbrev pub invariant-put_arms-loop-one : goal.invariant-put_arms-loop-one
invariant-put_arms-loop-one l = l.out ≡ l.initial.out ++ flat_map (λ t. t) (map spec.arm_text (take l.one-index l.all))

abbrev pub invariant-put_further_selects-loop-one : goal.invariant-put_further_selects-loop-one
invariant-put_further_selects-loop-one l = l.out ≡ l.initial.out ++ flat_map (λ t. t) (map spec.further_text (take l.one-index l.all))

abbrev pub invariant-put_joins-loop-one : goal.invariant-put_joins-loop-one
invariant-put_joins-loop-one l = l.out ≡ l.initial.out ++ flat_map (λ t. t) (map spec.join_text (take l.one-index l.all))
