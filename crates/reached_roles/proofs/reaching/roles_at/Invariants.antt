use Rattle.reached_roles.proofs.ReachLemmas.{AreRolesOf}
use Rattle.reached_roles.proofs.reaching.roles_at.Given as goal

abbrev pub invariant-loop-nth : goal.invariant-loop-nth
invariant-loop-nth l = record { names_are : AreRolesOf l.edges l.found.keys l.nth l.names.items }
