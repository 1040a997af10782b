use Rattle.std.proofs.Common.{◌≡◌, ◌+◌, ◌++◌, drop, length}
use Rattle.table_parts.specs.Parts.{columns_of}
use Rattle.table_work.specs.Columns.{columns_from}
use Rattle.table_work.proofs.described.columns_made.Given as goal

abbrev pub invariant-loop-part : goal.invariant-loop-part
invariant-loop-part l = record {
  count : l.place + length (columns_of (drop l.part-index l.parts)) ≡ l.last + length (columns_of l.parts);
  made : columns_from l.c.items l.who l.table l.parts (l.last + 1) (columns_of l.parts) ≡ l.made ++ columns_from l.c.items l.who l.table l.parts (l.place + 1) (columns_of (drop l.part-index l.parts));
}
