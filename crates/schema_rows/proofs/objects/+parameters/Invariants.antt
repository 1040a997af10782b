use Rattle.std.proofs.Common.{length}
use Rattle.schema_rows.proofs.objects.+parameters.Given as goal

abbrev pub decreases-parameters : goal.decreases-parameters
decreases-parameters l = length l.params.now
