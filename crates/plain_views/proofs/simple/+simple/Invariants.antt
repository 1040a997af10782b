use Rattle.std.proofs.Common.{◌≡◌, drop, map}
use Rattle.cat_items.specs.Plain.{all_simple}
use Rattle.plain_views.specs.Alone as spec
use Rattle.plain_views.proofs.simple.+simple.Given as goal

abbrev pub invariant-simple_exprs-loop-one : goal.invariant-simple_exprs-loop-one
invariant-simple_exprs-loop-one l = all_simple (map spec.expr_base l.all) ≡ all_simple (map spec.expr_base (drop l.one-index l.all))

abbrev pub invariant-simple_conjunctions-loop-one : goal.invariant-simple_conjunctions-loop-one
invariant-simple_conjunctions-loop-one l = all_simple (map spec.conjunction_base l.all) ≡ all_simple (map spec.conjunction_base (drop l.one-index l.all))

abbrev pub invariant-simple_negations-loop-one : goal.invariant-simple_negations-loop-one
invariant-simple_negations-loop-one l = all_simple (map spec.negation_base l.all) ≡ all_simple (map spec.negation_base (drop l.one-index l.all))

abbrev pub invariant-simple_arms-loop-one : goal.invariant-simple_arms-loop-one
invariant-simple_arms-loop-one l = all_simple (map spec.arm_base l.all) ≡ all_simple (map spec.arm_base (drop l.one-index l.all))

abbrev pub invariant-simple_added_terms-loop-one : goal.invariant-simple_added_terms-loop-one
invariant-simple_added_terms-loop-one l = all_simple (map spec.added_base l.all) ≡ all_simple (map spec.added_base (drop l.one-index l.all))

abbrev pub invariant-simple_multiplied_factors-loop-one : goal.invariant-simple_multiplied_factors-loop-one
invariant-simple_multiplied_factors-loop-one l = all_simple (map spec.multiplied_base l.all) ≡ all_simple (map spec.multiplied_base (drop l.one-index l.all))
