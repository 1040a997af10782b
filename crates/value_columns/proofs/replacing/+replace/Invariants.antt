use Rattle.std.proofs.Common.{◌≡◌, map, take}
use Rattle.value_columns.specs.Replaced.{replaced_conjunction, replaced_negation, replaced_added, replaced_multiplied, replaced_expr, replaced_arm, replaced_further, replaced_select_item, replaced_chain, replaced_join}
use Rattle.value_columns.proofs.replacing.+replace.Given as goal

abbrev pub invariant-lists::replace_conjunctions-loop-one : goal.invariant-lists::replace_conjunctions-loop-one
invariant-lists::replace_conjunctions-loop-one l = l.out ≡ map (replaced_conjunction l.by) (take l.one-index l.all)

abbrev pub invariant-lists::replace_negations-loop-one : goal.invariant-lists::replace_negations-loop-one
invariant-lists::replace_negations-loop-one l = l.out ≡ map (replaced_negation l.by) (take l.one-index l.all)

abbrev pub invariant-lists::replace_added_terms-loop-one : goal.invariant-lists::replace_added_terms-loop-one
invariant-lists::replace_added_terms-loop-one l = l.out ≡ map (replaced_added l.by) (take l.one-index l.all)

abbrev pub invariant-lists::replace_multiplied_factors-loop-one : goal.invariant-lists::replace_multiplied_factors-loop-one
invariant-lists::replace_multiplied_factors-loop-one l = l.out ≡ map (replaced_multiplied l.by) (take l.one-index l.all)

abbrev pub invariant-lists::replace_exprs-loop-one : goal.invariant-lists::replace_exprs-loop-one
invariant-lists::replace_exprs-loop-one l = l.out ≡ map (replaced_expr l.by) (take l.one-index l.all)

abbrev pub invariant-lists::replace_arms-loop-one : goal.invariant-lists::replace_arms-loop-one
invariant-lists::replace_arms-loop-one l = l.out ≡ map (replaced_arm l.by) (take l.one-index l.all)

abbrev pub invariant-lists::replace_further_selects-loop-one : goal.invariant-lists::replace_further_selects-loop-one
invariant-lists::replace_further_selects-loop-one l = l.out ≡ map (replaced_further l.by) (take l.one-index l.all)

abbrev pub invariant-lists::replace_select_items-loop-one : goal.invariant-lists::replace_select_items-loop-one
invariant-lists::replace_select_items-loop-one l = l.out ≡ map (replaced_select_item l.by) (take l.one-index l.all)

abbrev pub invariant-lists::replace_chains-loop-one : goal.invariant-lists::replace_chains-loop-one
invariant-lists::replace_chains-loop-one l = l.out ≡ map (replaced_chain l.by) (take l.one-index l.all)

abbrev pub invariant-lists::replace_joins-loop-one : goal.invariant-lists::replace_joins-loop-one
invariant-lists::replace_joins-loop-one l = l.out ≡ map (replaced_join l.by) (take l.one-index l.all)
