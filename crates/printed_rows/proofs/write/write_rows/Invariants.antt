use Rattle.std.proofs.Common.{◌≡◌, ◌≤◌, take, flat_map}
use Rattle.printed_rows.specs.RowTexts as texts
use Rattle.svc_io.specs.Bytes.{Got}
use Rattle.printed_rows.proofs.write.write_rows.Given as goal

abbrev pub invariant-loop-row : goal.invariant-loop-row
invariant-loop-row g l = let sink = g.W.Sink in record {
  bytes : Got (sink.given l.fn.sink) (flat_map texts.row_text (take l.row-index l.rows)) (sink.given l.sink);
  later : sink.faults l.fn.sink ≤ sink.faults l.sink;
  beside : sink.beside l.sink ≡ sink.beside l.fn.sink;
}
