use Rattle.std.proofs.Common.{◌≡◌, ◌≤◌, take, flat_map}
use Rattle.printed_rows.specs.RowTexts as texts
use Rattle.svc_io.specs.Bytes.{Got}
use Rattle.printed_rows.proofs.write.write_words.Given as goal

abbrev pub invariant-loop-byte : goal.invariant-loop-byte
invariant-loop-byte g l = let sink = g.W.Sink in record {
  bytes : Got (sink.given l.fn.sink) (flat_map texts.escaped (take l.byte-index l.bytes)) (sink.given l.sink);
  later : sink.faults l.fn.sink ≤ sink.faults l.sink;
  beside : sink.beside l.sink ≡ sink.beside l.fn.sink;
}
