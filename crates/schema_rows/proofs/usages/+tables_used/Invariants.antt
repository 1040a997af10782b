use Rattle.std.proofs.Common.{length}
use Rattle.schema_rows.proofs.usages.+tables_used.Given as goal

abbrev pub decreases-tables_used : goal.decreases-tables_used
decreases-tables_used l = length l.needs.now
