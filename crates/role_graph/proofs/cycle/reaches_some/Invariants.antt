use Rattle.std.proofs.Common.{◌≡◌}
use Rattle.cat_items.specs.declared.need.Auth.TheVariants.{Named}
use Rattle.cat_items.specs.Reach.{Reaches}
use Rattle.role_graph.proofs.CycleLemmas.{NoneBelow}
use Rattle.role_graph.proofs.cycle.reaches_some.Given as goal

abbrev pub invariant-loop-name : goal.invariant-loop-name
invariant-loop-name l = record {
  room : l.walk ≡ l.initial.walk;
  none : NoneBelow (λ name. Reaches l.c.items (Named l.role) (Named name)) l.names.items l.name-index;
}
