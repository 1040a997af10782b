use Rattle.table_parts.proofs.Searches.{NoneBelow}
use Rattle.table_additions.specs.Additions.{IsPrimaryKey}
use Rattle.table_additions.proofs.refusing.has_primary.Given as goal

abbrev pub invariant-loop-key : goal.invariant-loop-key
invariant-loop-key l = record { none : NoneBelow IsPrimaryKey l.keys l.key-index }
