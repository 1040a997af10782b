use Rattle.std.proofs.Common.{rules, inr}
use Rattle.table_names.proofs.DigitLemmas.{digit_more}
use Rattle.table_names.proofs.numbers.number_of.Goals as goal

pub loop-digit-preserved : goal.loop-digit-preserved
loop-digit-preserved c = record {
  read = inr (digit_more c.args.digits.now c.loop-digit.digit-index c.loop-digit.number c.loop-digit-test.true (search rules) (search rules) c.if-digits-eq48.false c.if-number-gt-MOST.false c.loop-digit.invariant.read);
}
