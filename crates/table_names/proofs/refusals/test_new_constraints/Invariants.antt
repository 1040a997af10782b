use Rattle.std.proofs.Common.{map, take}
use Rattle.edit_rules.specs.First.{First, Passes}
use Rattle.table_names.specs.Refusals.{exists_in}
use Rattle.table_names.proofs.refusals.test_new_constraints.Given as goal

abbrev pub invariant-loop-name : goal.invariant-loop-name
invariant-loop-name l = record { before : Passes (First (map (exists_in l.c.items l.schema) (take l.name-index l.names))) }
