use Rattle.std.proofs.Common.{◌≡◌, ℕ, List}
use Rattle.std.specs.List.{Contains}
use Rattle.cat_items.specs.declared.need.Auth.TheVariants.{Named}
use Rattle.cat_items.specs.Reach.{Reaches}
use Rattle.role_graph.proofs.CycleLemmas.{NoneBelow}
use Rattle.role_graph.proofs.cycle.some_reaches.Given as goal

abbrev pub invariant-loop-role : goal.invariant-loop-role
invariant-loop-role l = record {
  room : l.walk ≡ l.initial.walk;
  none : NoneBelow (λ role. (name : List ℕ) × Contains l.grantees.items name × Reaches l.c.items (Named role) (Named name)) l.roles.items l.role-index;
}
