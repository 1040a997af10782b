use Rattle.chosen_parts.proofs.Passing.{NoneBetween}
use Rattle.chosen_parts.proofs.searching.has_between.Given as goal

abbrev pub invariant-loop-at : goal.invariant-loop-at
invariant-loop-at g l = record { none : NoneBetween (g.T.Chooses.fits l.test) l.items l.from l.at }
