use Rattle.std.proofs.Common.{[], ◌∷◌, ◌++◌, codes, decimal, length}
use Rattle.printed_rows.specs.RowTexts.{rows_text}
use Rattle.svc_io.proofs.Told.{GotFront-before, Puts-after}
use Rattle.sessions.proofs.print.write_found.Goals as goal

pub returns-in-Err-clause-bytes : goal.returns-in-Err-clause-bytes
returns-in-Err-clause-bytes g c = GotFront-before _ _ (codes "ROWS " ++ decimal (length c.args.rows.now) ++ 10 ∷ []) (rows_text c.args.rows.now) c.in-Err.ensures.bytes

pub returns-clause-bytes : goal.returns-clause-bytes
returns-clause-bytes g c = Puts-after _ _ _ (codes "ROWS " ++ decimal (length c.args.rows.now) ++ 10 ∷ []) (rows_text c.args.rows.now) _ c.in_default.ensures.bytes c.write_rows.ensures.bytes
