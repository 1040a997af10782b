use Rattle.std.proofs.Common.{length}
use Rattle.information_schema.proofs.views.+view_in.Given as goal

abbrev pub decreases-view_in : goal.decreases-view_in
decreases-view_in l = length l.views.now
