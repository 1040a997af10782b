use Rattle.std.proofs.Common.{length}
use Rattle.schema_rows.proofs.usages.+uses_tables.Given as goal

abbrev pub decreases-uses_tables : goal.decreases-uses_tables
decreases-uses_tables l = length l.needs.now
