use Rattle.std.proofs.Common.{[], take}
use Rattle.table_parts.specs.Parts.{constraints_of}
use Rattle.table_names.specs.Given.{given_names}
use Rattle.table_names.specs.Named.{AreNamed, IsFree, IsFreeBeside}
use Rattle.table_names.specs.Taken.{AreTaken}
use Rattle.table_names.proofs.named.name_constraints.Given as goal

abbrev pub invariant-loop-part : goal.invariant-loop-part
invariant-loop-part l = record {
  names : AreNamed (IsFree l.c.items l.schema (given_names l.parts)) [] (constraints_of (take l.part-index l.parts)) l.named;
  taken : AreTaken (IsFreeBeside (IsFree l.c.items l.schema (given_names l.parts)) l.named) l.taken.items;
}
