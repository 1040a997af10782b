use Rattle.std.proofs.Common.{◌≡◌, [], drop, map}
use Rattle.type_rules.specs.TypeParts as part
use Rattle.query_types.specs.Types as spec
use Rattle.query_types.proofs.typing.+types.Given as goal

abbrev pub invariant-lists::type_conjunctions-loop-one : goal.invariant-lists::type_conjunctions-loop-one
invariant-lists::type_conjunctions-loop-one g l = (l.frames ≡ l.fn.frames) × (part.each l.fn.frames [] (map (spec.conjunction (g.D.Dictionary.known l.dictionary) l.scope) l.all) ≡ part.each l.fn.frames l.out (map (spec.conjunction (g.D.Dictionary.known l.dictionary) l.scope) (drop l.one-index l.all)))

abbrev pub invariant-lists::type_negations-loop-one : goal.invariant-lists::type_negations-loop-one
invariant-lists::type_negations-loop-one g l = (l.frames ≡ l.fn.frames) × (part.each l.fn.frames [] (map (spec.negation (g.D.Dictionary.known l.dictionary) l.scope) l.all) ≡ part.each l.fn.frames l.out (map (spec.negation (g.D.Dictionary.known l.dictionary) l.scope) (drop l.one-index l.all)))

abbrev pub invariant-lists::type_exprs-loop-one : goal.invariant-lists::type_exprs-loop-one
invariant-lists::type_exprs-loop-one g l = (l.frames ≡ l.fn.frames) × (part.each l.fn.frames [] (map (spec.expr (g.D.Dictionary.known l.dictionary) l.scope) l.all) ≡ part.each l.fn.frames l.out (map (spec.expr (g.D.Dictionary.known l.dictionary) l.scope) (drop l.one-index l.all)))

abbrev pub invariant-lists::type_arms-loop-one : goal.invariant-lists::type_arms-loop-one
invariant-lists::type_arms-loop-one g l = (l.frames ≡ l.fn.frames) × (part.each l.fn.frames [] (map (spec.arm (g.D.Dictionary.known l.dictionary) l.scope) l.all) ≡ part.each l.fn.frames l.out (map (spec.arm (g.D.Dictionary.known l.dictionary) l.scope) (drop l.one-index l.all)))

abbrev pub invariant-lists::type_select_items-loop-one : goal.invariant-lists::type_select_items-loop-one
invariant-lists::type_select_items-loop-one g l = (l.frames ≡ l.fn.frames) × (part.each l.fn.frames [] (map (spec.select_item (g.D.Dictionary.known l.dictionary) l.scope) l.all) ≡ part.each l.fn.frames l.out (map (spec.select_item (g.D.Dictionary.known l.dictionary) l.scope) (drop l.one-index l.all)))

abbrev pub invariant-lists::type_added_terms-loop-one : goal.invariant-lists::type_added_terms-loop-one
invariant-lists::type_added_terms-loop-one g l = (l.frames ≡ l.fn.frames) × (part.sum_of l.fn.frames l.fn.first (map (spec.added (g.D.Dictionary.known l.dictionary) l.scope) l.all) ≡ part.sum_of l.fn.frames l.sort (map (spec.added (g.D.Dictionary.known l.dictionary) l.scope) (drop l.one-index l.all)))

abbrev pub invariant-lists::type_multiplied_factors-loop-one : goal.invariant-lists::type_multiplied_factors-loop-one
invariant-lists::type_multiplied_factors-loop-one g l = (l.frames ≡ l.fn.frames) × (part.product_of l.fn.frames l.fn.first (map (spec.multiplied (g.D.Dictionary.known l.dictionary) l.scope) l.all) ≡ part.product_of l.fn.frames l.sort (map (spec.multiplied (g.D.Dictionary.known l.dictionary) l.scope) (drop l.one-index l.all)))

abbrev pub invariant-lists::type_further_selects-loop-one : goal.invariant-lists::type_further_selects-loop-one
invariant-lists::type_further_selects-loop-one g l = (l.frames ≡ l.fn.frames) × (part.united l.fn.frames (map (spec.further (g.D.Dictionary.known l.dictionary) l.scope) l.all) l.fn.first ≡ part.united l.fn.frames (map (spec.further (g.D.Dictionary.known l.dictionary) l.scope) (drop l.one-index l.all)) l.sorts)

abbrev pub invariant-lists::joins_hold-loop-one : goal.invariant-lists::joins_hold-loop-one
invariant-lists::joins_hold-loop-one g l = (l.frames ≡ l.fn.frames) × (part.all_hold (map (spec.join (g.D.Dictionary.known l.dictionary) l.scope) l.all) l.fn.frames ≡ part.all_hold (map (spec.join (g.D.Dictionary.known l.dictionary) l.scope) (drop l.one-index l.all)) l.fn.frames)

abbrev pub invariant-lists::chains_hold-loop-one : goal.invariant-lists::chains_hold-loop-one
invariant-lists::chains_hold-loop-one g l = (l.frames ≡ l.fn.frames) × (part.all_hold (map (spec.chain (g.D.Dictionary.known l.dictionary) l.scope) l.all) l.fn.frames ≡ part.all_hold (map (spec.chain (g.D.Dictionary.known l.dictionary) l.scope) (drop l.one-index l.all)) l.fn.frames)
