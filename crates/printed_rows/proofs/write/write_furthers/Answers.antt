use Rattle.printed_rows.specs.RowTexts.{further_text}
use Rattle.printed_rows.proofs.Fronts.{broke_off}
use Rattle.printed_rows.proofs.write.write_furthers.Goals as goal

pub returns-in-Err-clause-bytes : goal.returns-in-Err-clause-bytes
returns-in-Err-clause-bytes g c = broke_off further_text c.args.cells.now c.loop-cell.cell-index c.cell-item.result c.cell-item.result _ _ _ c.loop-cell-test.true c.cell-item.is c.loop-cell.invariant.bytes c.in-Err.ensures.bytes
