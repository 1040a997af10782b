use Rattle.std.proofs.Common.{◌-◌, length, drop, flat_map, take, subst, List, ℕ}
use Rattle.svc_io.specs.Bytes.{Puts}
use Rattle.svc_io.proofs.Told.{Puts-after}
use Rattle.printed_rows.specs.RowTexts.{cell_text, further_text}
use Rattle.printed_rows.proofs.Cells.{first_and_rest}
use Rattle.printed_rows.proofs.write.write_cells.Goals as goal

pub returns-in_default-clause-bytes : goal.returns-in_default-clause-bytes
returns-in_default-clause-bytes g c =
    let cells = c.args.cells.now in
    let sink = g.W.Sink in
    subst (λ (text : List ℕ). Puts (sink.given c.args.sink.now) text (sink.given c.write_furthers.new.sink) c.write_furthers.result)
    (first_and_rest cells c.first-item.result c.in-len1-up.len_at_least c.first-item.is)
    (Puts-after _ _ _ (cell_text c.first-item.result) (flat_map further_text (take (length cells - 1) (drop 1 cells))) _ c.in_default.ensures.bytes c.write_furthers.ensures.bytes)
