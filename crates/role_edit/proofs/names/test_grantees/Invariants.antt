use Rattle.std.proofs.Common.{map, take}
use Rattle.edit_rules.specs.First.{First, Passes}
use Rattle.edit_rules.specs.Names.{unknown_authorization}
use Rattle.role_edit.proofs.names.test_grantees.Given as goal

abbrev pub invariant-loop-grantee : goal.invariant-loop-grantee
invariant-loop-grantee l = Passes (First (map (unknown_authorization l.c.items) (take l.grantee-index l.grantees)))
