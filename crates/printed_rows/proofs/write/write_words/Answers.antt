use Rattle.std.proofs.Common.{refl}
use Rattle.printed_rows.specs.RowTexts.{escaped}
use Rattle.printed_rows.proofs.Fronts.{broke_off}
use Rattle.printed_rows.proofs.write.write_words.Goals as goal

pub returns-in-Err-clause-bytes : goal.returns-in-Err-clause-bytes
returns-in-Err-clause-bytes g c = broke_off escaped c.args.bytes.now c.loop-byte.byte-index _ 0 _ _ _ c.loop-byte-test.true refl c.loop-byte.invariant.bytes c.in-Err.ensures.bytes
