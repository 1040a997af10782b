use Rattle.table_parts.proofs.Searches.{NoneBelow}
use Rattle.table_types.specs.Types.{HasMisfit}
use Rattle.table_types.proofs.types.has_any_misfit.Given as goal

abbrev pub invariant-loop-part : goal.invariant-loop-part
invariant-loop-part l = record { none : NoneBelow (HasMisfit l.c.items l.who) l.parts l.part-index }
