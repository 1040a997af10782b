use Rattle.printed_rows.specs.RowTexts.{row_text}
use Rattle.printed_rows.proofs.Fronts.{broke_off}
use Rattle.printed_rows.proofs.write.write_rows.Goals as goal

pub returns-in-Err-clause-bytes : goal.returns-in-Err-clause-bytes
returns-in-Err-clause-bytes g c = broke_off row_text c.args.rows.now c.loop-row.row-index c.row-item.result c.row-item.result _ _ _ c.loop-row-test.true c.row-item.is c.loop-row.invariant.bytes c.in-Err.ensures.bytes
