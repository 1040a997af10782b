use Rattle.std.proofs.Common.{length}
use Rattle.schema_rows.proofs.usages.+uses_columns.Given as goal

abbrev pub decreases-uses_columns : goal.decreases-uses_columns
decreases-uses_columns l = length l.needs.now
