use Rattle.std.proofs.Common.{◌≡◌, ◌≤◌, take, flat_map}
use Rattle.printed_rows.specs.RowTexts as texts
use Rattle.svc_io.specs.Bytes.{Got}
use Rattle.printed_rows.proofs.write.write_furthers.Given as goal

abbrev pub invariant-loop-cell : goal.invariant-loop-cell
invariant-loop-cell g l = let sink = g.W.Sink in record {
  bytes : Got (sink.given l.fn.sink) (flat_map texts.further_text (take l.cell-index l.cells)) (sink.given l.sink);
  later : sink.faults l.fn.sink ≤ sink.faults l.sink;
  beside : sink.beside l.sink ≡ sink.beside l.fn.sink;
}
