use Rattle.information_schema.proofs.Worth.{over}
use Rattle.information_schema.proofs.numbers.+whole_is.Goals as goal

pub returns-in-None : goal.returns-in-None
returns-in-None t c = over c.args.text.now c.args.so_far c.args.n c.in-len1-up.len_at_least c.if-byte-eq46.false c.ranges.n.fits c.in-None.ensures.none
