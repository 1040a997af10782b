use Rattle.cat_items.specs.Edits.{IsFurther}
use Rattle.new_catalogues.proofs.FurtherLemmas.{NoneBefore}
use Rattle.new_catalogues.proofs.taken.further.Given as goal

abbrev pub invariant-loop-x : goal.invariant-loop-x
invariant-loop-x l = record { none : NoneBefore l.c.items (IsFurther l.c.items l.edit l.new.items) l.x-index }
