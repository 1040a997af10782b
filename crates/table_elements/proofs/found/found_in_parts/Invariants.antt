use Rattle.std.proofs.Common.{take}
use Rattle.edit_rules.proofs.TestLists.{PassBelow}
use Rattle.table_parts.specs.Parts.{constraints_of}
use Rattle.table_elements.specs.Found.{AreFoundOf}
use Rattle.table_elements.specs.Names.{unknown_in_part}
use Rattle.table_elements.proofs.found.found_in_parts.Given as goal

abbrev pub invariant-loop-part : goal.invariant-loop-part
invariant-loop-part l = record {
  before : PassBelow (unknown_in_part l.c.items l.who l.w) l.parts l.part-index;
  found : AreFoundOf l.c.items l.who l.w (constraints_of (take l.part-index l.parts)) l.found;
}
