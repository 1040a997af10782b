use Rattle.std.proofs.Common.{map, take}
use Rattle.edit_rules.specs.First.{First, Passes}
use Rattle.table_elements.specs.Names.{unknown_among}
use Rattle.table_elements.proofs.names.test_among.Given as goal

abbrev pub invariant-loop-name : goal.invariant-loop-name
invariant-loop-name l = record { before : Passes (First (map (unknown_among l.columns l.table) (take l.name-index l.names))) }
