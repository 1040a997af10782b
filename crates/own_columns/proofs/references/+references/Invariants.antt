use Rattle.std.proofs.Common.{◌≡◌, ◌++◌, drop, map}
use Rattle.cat_items.specs.Pieces as pieces
use Rattle.resolved_trees.specs.TreePieces as trees
use Rattle.own_columns.specs.References.{references_in}
use Rattle.own_columns.proofs.references.+references.Given as goal

abbrev pub invariant-put_conjunctions-loop-one : goal.invariant-put_conjunctions-loop-one
invariant-put_conjunctions-loop-one l = l.initial.out ++ references_in (pieces.all_pieces (map trees.conjunction_pieces l.all)) ≡ l.out ++ references_in (pieces.all_pieces (map trees.conjunction_pieces (drop l.one-index l.all)))

abbrev pub invariant-put_negations-loop-one : goal.invariant-put_negations-loop-one
invariant-put_negations-loop-one l = l.initial.out ++ references_in (pieces.all_pieces (map trees.negation_pieces l.all)) ≡ l.out ++ references_in (pieces.all_pieces (map trees.negation_pieces (drop l.one-index l.all)))

abbrev pub invariant-put_added_terms-loop-one : goal.invariant-put_added_terms-loop-one
invariant-put_added_terms-loop-one l = l.initial.out ++ references_in (pieces.all_pieces (map trees.added_pieces l.all)) ≡ l.out ++ references_in (pieces.all_pieces (map trees.added_pieces (drop l.one-index l.all)))

abbrev pub invariant-put_multiplied_factors-loop-one : goal.invariant-put_multiplied_factors-loop-one
invariant-put_multiplied_factors-loop-one l = l.initial.out ++ references_in (pieces.all_pieces (map trees.multiplied_pieces l.all)) ≡ l.out ++ references_in (pieces.all_pieces (map trees.multiplied_pieces (drop l.one-index l.all)))

abbrev pub invariant-put_exprs-loop-one : goal.invariant-put_exprs-loop-one
invariant-put_exprs-loop-one l = l.initial.out ++ references_in (pieces.all_pieces (map pieces.expr_pieces l.all)) ≡ l.out ++ references_in (pieces.all_pieces (map pieces.expr_pieces (drop l.one-index l.all)))

abbrev pub invariant-put_arms-loop-one : goal.invariant-put_arms-loop-one
invariant-put_arms-loop-one l = l.initial.out ++ references_in (pieces.all_pieces (map trees.arm_pieces l.all)) ≡ l.out ++ references_in (pieces.all_pieces (map trees.arm_pieces (drop l.one-index l.all)))

abbrev pub invariant-put_further_selects-loop-one : goal.invariant-put_further_selects-loop-one
invariant-put_further_selects-loop-one l = l.initial.out ++ references_in (pieces.all_pieces (map trees.further_pieces l.all)) ≡ l.out ++ references_in (pieces.all_pieces (map trees.further_pieces (drop l.one-index l.all)))

abbrev pub invariant-put_select_items-loop-one : goal.invariant-put_select_items-loop-one
invariant-put_select_items-loop-one l = l.initial.out ++ references_in (pieces.all_pieces (map trees.select_item_pieces l.all)) ≡ l.out ++ references_in (pieces.all_pieces (map trees.select_item_pieces (drop l.one-index l.all)))

abbrev pub invariant-put_chains-loop-one : goal.invariant-put_chains-loop-one
invariant-put_chains-loop-one l = l.initial.out ++ references_in (pieces.all_pieces (map trees.chain_pieces l.all)) ≡ l.out ++ references_in (pieces.all_pieces (map trees.chain_pieces (drop l.one-index l.all)))

abbrev pub invariant-put_joins-loop-one : goal.invariant-put_joins-loop-one
invariant-put_joins-loop-one l = l.initial.out ++ references_in (pieces.all_pieces (map trees.join_pieces l.all)) ≡ l.out ++ references_in (pieces.all_pieces (map trees.join_pieces (drop l.one-index l.all)))
