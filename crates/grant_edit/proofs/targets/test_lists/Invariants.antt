use Rattle.std.proofs.Common.{map}
use Rattle.sql_tree.specs.declared.rights.Privilege.{Privilege}
use Rattle.edit_rules.specs.Names.{unknown_column}
use Rattle.edit_rules.proofs.TestLists.{PassBelow}
use Rattle.grant_edit.proofs.targets.test_lists.Given as goal

abbrev pub invariant-loop-privilege : goal.invariant-loop-privilege
invariant-loop-privilege l = PassBelow (λ (p : Privilege). map (unknown_column l.c.items l.object) p.columns) l.listed l.privilege-index
