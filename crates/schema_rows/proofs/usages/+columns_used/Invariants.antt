use Rattle.std.proofs.Common.{length}
use Rattle.schema_rows.proofs.usages.+columns_used.Given as goal

abbrev pub decreases-columns_used : goal.decreases-columns_used
decreases-columns_used l = length l.needs.now
