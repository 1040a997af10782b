use Rattle.std.proofs.Common.{[], ◌∷◌}
use Rattle.svc_io.proofs.Told.{Puts-after}
use Rattle.printed_rows.specs.RowTexts.{cells_text}
use Rattle.printed_rows.proofs.write.write_row.Goals as goal

pub returns-clause-bytes : goal.returns-clause-bytes
returns-clause-bytes g c = Puts-after _ _ _ (cells_text c.args.row.now) (10 ∷ []) _ (rw c.as_slice.ensures at c.in_default.ensures.bytes) c.put_all.ensures.bytes
