use Rattle.std.proofs.Common.{length}
use Rattle.schema_rows.proofs.constraints.+key_usage.Given as goal

abbrev pub decreases-key_usage : goal.decreases-key_usage
decreases-key_usage l = length l.columns.now
