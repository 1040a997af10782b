use Rattle.std.proofs.Common.{map, take}
use Rattle.edit_rules.specs.First.{First, Passes}
use Rattle.edit_rules.specs.Names.{unknown_column}
use Rattle.grant_edit.proofs.targets.test_list.Given as goal

abbrev pub invariant-loop-name : goal.invariant-loop-name
invariant-loop-name l = Passes (First (map (unknown_column l.c.items l.object) (take l.name-index l.names)))
