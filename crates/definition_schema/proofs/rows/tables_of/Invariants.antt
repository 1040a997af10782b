use Rattle.std.proofs.Common.{take}
use Rattle.definition_schema.specs.Tables.{AreTables, names_of}
use Rattle.definition_schema.proofs.rows.tables_of.Given as goal

abbrev pub invariant-loop-which : goal.invariant-loop-which
invariant-loop-which l = AreTables l.c.items (names_of (take l.which-index l.entries)) l.tables.items
