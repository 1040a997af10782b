use Rattle.table_parts.proofs.Searches.{NoneBelow}
use Rattle.domain_edits.specs.Found.{HasNone}
use Rattle.domain_edits.proofs.checks.has_none.Given as goal

abbrev pub invariant-loop-one : goal.invariant-loop-one
invariant-loop-one l = record { none : NoneBelow HasNone l.all l.one-index }
