use Rattle.std.proofs.Common.{length}
use Rattle.information_schema.proofs.refusals.+test_tested.Given as goal

abbrev pub decreases-test_tested : goal.decreases-test_tested
decreases-test_tested l = length l.tests.now
