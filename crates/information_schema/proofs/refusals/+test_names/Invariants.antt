use Rattle.std.proofs.Common.{length}
use Rattle.information_schema.proofs.refusals.+test_names.Given as goal

abbrev pub decreases-test_names : goal.decreases-test_names
decreases-test_names l = length l.names.now
