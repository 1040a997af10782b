use Rattle.new_catalogues.proofs.FurtherLemmas.{NoneBefore}
use Rattle.new_catalogues.proofs.WidthLemmas.{IsWide}
use Rattle.new_catalogues.proofs.width.columns_beyond.Given as goal

abbrev pub invariant-loop-x : goal.invariant-loop-x
invariant-loop-x l = record { none : NoneBefore l.c.items (IsWide l.c.items l.most) l.x-index }
