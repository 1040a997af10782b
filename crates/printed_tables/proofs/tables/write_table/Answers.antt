use Rattle.std.proofs.Common.{length}
use Rattle.svc_io.proofs.Told.{GotFront-before, Puts-after}
use Rattle.printed_rows.specs.RowTexts.{rows_text}
use Rattle.printed_tables.specs.TableTexts.{head_text}
use Rattle.printed_tables.proofs.tables.write_table.Goals as goal

pub returns-in-Err-clause-bytes : goal.returns-in-Err-clause-bytes
returns-in-Err-clause-bytes g c =
    let table = c.args.table.now in
    GotFront-before _ _ (head_text table.name (length table.rows.items)) (rows_text table.rows.items) (rw c.as_slice-rows.ensures.value at c.in-Err.ensures.bytes)

pub returns-clause-bytes : goal.returns-clause-bytes
returns-clause-bytes g c =
    let table = c.args.table.now in
    Puts-after _ _ _ (head_text table.name (length table.rows.items)) (rows_text table.rows.items) _ (rw c.as_slice-rows.ensures.value at c.in_default.ensures.bytes) (rw c.as_slice-rows.ensures.value at c.write_rows.ensures.bytes)
