use Rattle.std.proofs.Common.{map, take}
use Rattle.edit_rules.specs.First.{First, Passes}
use Rattle.edit_rules.specs.Names.{unknown_role}
use Rattle.role_edit.proofs.names.test_roles.Given as goal

abbrev pub invariant-loop-role : goal.invariant-loop-role
invariant-loop-role l = Passes (First (map (unknown_role l.c.items) (take l.role-index l.roles)))
