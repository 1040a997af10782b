use Rattle.std.proofs.Common.{◌≡◌, ◌≤◌, length, take}
use Rattle.table_parts.specs.Parts.{columns_of}
use Rattle.table_types.proofs.types.count_columns.Given as goal

abbrev pub invariant-loop-part : goal.invariant-loop-part
invariant-loop-part l = record {
  count : l.count ≡ length (columns_of (take l.part-index l.parts));
  few : l.count ≤ l.part-index;
}
