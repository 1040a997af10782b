use Rattle.std.proofs.Common.{length}
use Rattle.information_schema.proofs.numbers.+whole_is.Given as goal

abbrev pub decreases-whole_is : goal.decreases-whole_is
decreases-whole_is l = length l.text.now
