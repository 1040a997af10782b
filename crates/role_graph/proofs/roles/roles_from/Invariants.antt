use Rattle.std.proofs.Common.{◌≡◌, ◌≤◌, ◌-◌}
use Rattle.role_graph.proofs.NameLemmas.{AreRolesBefore}
use Rattle.role_graph.proofs.roles.roles_from.Given as goal

abbrev pub invariant-loop-at : goal.invariant-loop-at
invariant-loop-at l = record {
  room : l.walk ≡ l.initial.walk;
  from_start : l.all.start ≤ l.at;
  before : AreRolesBefore l.c.items l.from l.at l.names.items;
}

abbrev pub decreases-loop-at : goal.decreases-loop-at
decreases-loop-at l = l.all.end - l.at
