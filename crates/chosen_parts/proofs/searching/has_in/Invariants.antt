use Rattle.std.proofs.Common.{take}
use Rattle.chosen_parts.proofs.Passing.{NoneIn}
use Rattle.chosen_parts.proofs.searching.has_in.Given as goal

abbrev pub invariant-loop-part : goal.invariant-loop-part
invariant-loop-part g l = record { none : NoneIn (g.T.Chooses.fits l.test) l.c.items (take l.part-index l.parts) }
