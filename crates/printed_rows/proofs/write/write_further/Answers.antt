use Rattle.std.proofs.Common.{[], ◌∷◌}
use Rattle.svc_io.proofs.Told.{GotFront-before, Puts-after}
use Rattle.printed_rows.specs.RowTexts.{cell_text}
use Rattle.printed_rows.proofs.write.write_further.Goals as goal

pub returns-in-Err-clause-bytes : goal.returns-in-Err-clause-bytes
returns-in-Err-clause-bytes g c = GotFront-before _ _ (9 ∷ []) (cell_text c.args.cell.now) c.in-Err.ensures.bytes

pub returns-clause-bytes : goal.returns-clause-bytes
returns-clause-bytes g c = Puts-after _ _ _ (9 ∷ []) (cell_text c.args.cell.now) _ c.in_default.ensures.bytes c.write_cell.ensures.bytes
