use Rattle.std.proofs.Common.{length}
use Rattle.information_schema.proofs.numbers.+has_zero_fraction.Given as goal

abbrev pub decreases-has_zero_fraction : goal.decreases-has_zero_fraction
decreases-has_zero_fraction l = length l.text.now
