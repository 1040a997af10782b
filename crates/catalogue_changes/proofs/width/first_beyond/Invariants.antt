use Rattle.std.proofs.Common.{◌-◌, length}
use Rattle.catalogue_changes.proofs.Widths.{NoneYet}
use Rattle.catalogue_changes.proofs.width.first_beyond.Given as goal

abbrev pub invariant-loop-at : goal.invariant-loop-at
invariant-loop-at l = record { none : NoneYet l.c.items l.change l.most l.kind l.at }

abbrev pub decreases-loop-at : goal.decreases-loop-at
decreases-loop-at l = length l.items - l.at
