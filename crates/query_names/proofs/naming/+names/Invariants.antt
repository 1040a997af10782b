use Rattle.std.proofs.Common.{◌≡◌, [], drop, map}
use Rattle.query_names.specs.Names as spec
use Rattle.name_scopes.specs.Outcomes.{each, listed, thread}
use Rattle.query_names.proofs.naming.+names.Given as goal

abbrev pub invariant-lists::resolve_conjunctions-loop-one : goal.invariant-lists::resolve_conjunctions-loop-one
invariant-lists::resolve_conjunctions-loop-one g l = (l.frames ≡ l.fn.frames) × (each l.fn.frames [] (map (spec.conjunction (g.D.Dictionary.known l.dictionary) l.scope) l.all) ≡ each l.fn.frames l.out (map (spec.conjunction (g.D.Dictionary.known l.dictionary) l.scope) (drop l.one-index l.all)))

abbrev pub invariant-lists::resolve_negations-loop-one : goal.invariant-lists::resolve_negations-loop-one
invariant-lists::resolve_negations-loop-one g l = (l.frames ≡ l.fn.frames) × (each l.fn.frames [] (map (spec.negation (g.D.Dictionary.known l.dictionary) l.scope) l.all) ≡ each l.fn.frames l.out (map (spec.negation (g.D.Dictionary.known l.dictionary) l.scope) (drop l.one-index l.all)))

abbrev pub invariant-lists::resolve_added_terms-loop-one : goal.invariant-lists::resolve_added_terms-loop-one
invariant-lists::resolve_added_terms-loop-one g l = (l.frames ≡ l.fn.frames) × (each l.fn.frames [] (map (spec.added (g.D.Dictionary.known l.dictionary) l.scope) l.all) ≡ each l.fn.frames l.out (map (spec.added (g.D.Dictionary.known l.dictionary) l.scope) (drop l.one-index l.all)))

abbrev pub invariant-lists::resolve_multiplied_factors-loop-one : goal.invariant-lists::resolve_multiplied_factors-loop-one
invariant-lists::resolve_multiplied_factors-loop-one g l = (l.frames ≡ l.fn.frames) × (each l.fn.frames [] (map (spec.multiplied (g.D.Dictionary.known l.dictionary) l.scope) l.all) ≡ each l.fn.frames l.out (map (spec.multiplied (g.D.Dictionary.known l.dictionary) l.scope) (drop l.one-index l.all)))

abbrev pub invariant-lists::resolve_exprs-loop-one : goal.invariant-lists::resolve_exprs-loop-one
invariant-lists::resolve_exprs-loop-one g l = (l.frames ≡ l.fn.frames) × (each l.fn.frames [] (map (spec.expr (g.D.Dictionary.known l.dictionary) l.scope) l.all) ≡ each l.fn.frames l.out (map (spec.expr (g.D.Dictionary.known l.dictionary) l.scope) (drop l.one-index l.all)))

abbrev pub invariant-lists::resolve_arms-loop-one : goal.invariant-lists::resolve_arms-loop-one
invariant-lists::resolve_arms-loop-one g l = (l.frames ≡ l.fn.frames) × (each l.fn.frames [] (map (spec.arm (g.D.Dictionary.known l.dictionary) l.scope) l.all) ≡ each l.fn.frames l.out (map (spec.arm (g.D.Dictionary.known l.dictionary) l.scope) (drop l.one-index l.all)))

abbrev pub invariant-lists::resolve_further_selects-loop-one : goal.invariant-lists::resolve_further_selects-loop-one
invariant-lists::resolve_further_selects-loop-one g l = (l.frames ≡ l.fn.frames) × (each l.fn.frames [] (map (spec.further (g.D.Dictionary.known l.dictionary) l.scope) l.all) ≡ each l.fn.frames l.out (map (spec.further (g.D.Dictionary.known l.dictionary) l.scope) (drop l.one-index l.all)))

abbrev pub invariant-lists::resolve_chains-loop-one : goal.invariant-lists::resolve_chains-loop-one
invariant-lists::resolve_chains-loop-one g l = (drop 1 l.frames ≡ drop 1 l.fn.frames) × (thread [] (map (spec.chain (g.D.Dictionary.known l.dictionary) l.scope) l.all) l.fn.frames ≡ thread l.out (map (spec.chain (g.D.Dictionary.known l.dictionary) l.scope) (drop l.one-index l.all)) l.frames)

abbrev pub invariant-lists::resolve_joins-loop-one : goal.invariant-lists::resolve_joins-loop-one
invariant-lists::resolve_joins-loop-one g l = (drop 1 l.frames ≡ drop 1 l.fn.frames) × (thread [] (map (spec.join (g.D.Dictionary.known l.dictionary) l.scope) l.all) l.fn.frames ≡ thread l.out (map (spec.join (g.D.Dictionary.known l.dictionary) l.scope) (drop l.one-index l.all)) l.frames)

abbrev pub invariant-lists::resolve_select_items-loop-one : goal.invariant-lists::resolve_select_items-loop-one
invariant-lists::resolve_select_items-loop-one g l = (l.frames ≡ l.fn.frames) × (listed l.fn.frames [] (map (spec.select_item (g.D.Dictionary.known l.dictionary) l.scope) l.all) ≡ listed l.fn.frames l.out (map (spec.select_item (g.D.Dictionary.known l.dictionary) l.scope) (drop l.one-index l.all)))
