use Rattle.std.proofs.Common.{length}
use Rattle.schema_rows.proofs.constraints.+constraint_columns.Given as goal

abbrev pub decreases-constraint_columns : goal.decreases-constraint_columns
decreases-constraint_columns l = length l.columns.now
