use Rattle.std.proofs.Common.{◌≡◌, ℕ, ◌<◌}
use Rattle.edit_rules.proofs.NameLemmas.{IsConstraintOf, constraint_kinds}
use Rattle.cat_items.specs.Reach.{Has}
use Rattle.edit_rules.proofs.names.is_constraint.Given as goal

abbrev pub invariant-loop-kind : goal.invariant-loop-kind
invariant-loop-kind l = record {
  kinds : l.kind-items ≡ constraint_kinds;
  none : (k : ℕ) → k < l.kind-index → Has l.c.items (IsConstraintOf k l.name) → ⊥;
}
