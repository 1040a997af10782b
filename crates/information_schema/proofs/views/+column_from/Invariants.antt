use Rattle.std.proofs.Common.{length}
use Rattle.information_schema.proofs.views.+column_from.Given as goal

abbrev pub decreases-column_from : goal.decreases-column_from
decreases-column_from l = length l.columns.now
