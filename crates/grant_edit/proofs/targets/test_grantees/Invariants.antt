use Rattle.std.proofs.Common.{map, take}
use Rattle.edit_rules.specs.First.{First, Passes}
use Rattle.grant_edit.specs.Targets.{unknown_grantee}
use Rattle.grant_edit.proofs.targets.test_grantees.Given as goal

abbrev pub invariant-loop-grantee : goal.invariant-loop-grantee
invariant-loop-grantee l = Passes (First (map (unknown_grantee l.c.items) (take l.grantee-index l.grantees)))
