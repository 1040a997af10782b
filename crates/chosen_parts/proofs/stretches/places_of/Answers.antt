use Rattle.std.specs.declared.ops.Range.{Range}
use Rattle.std.proofs.Common.{ℕ, rules}
use Rattle.std.proofs.lemmas.List.Sorted.{IsNonDecreasingBy-from_sort_by_key}
use Rattle.chosen_parts.proofs.Covering.{covered_moved}
use Rattle.chosen_parts.proofs.stretches.places_of.Goals as goal

pub returns-clause-ranges : goal.returns-clause-ranges
returns-clause-ranges c = covered_moved c.args.c.now.items c.args.parts.now c.in_ok-ranges.ranges.items _ c.sort_unstable_by_key.ensures.permutation c.in_ok-ranges.ensures

pub returns-clause-order : goal.returns-clause-order
returns-clause-order c = IsNonDecreasingBy-from_sort_by_key (λ (r : Range ℕ). r.start) _ c.sort_unstable_by_key.ensures.sorted (λ a r q k. search rules)
