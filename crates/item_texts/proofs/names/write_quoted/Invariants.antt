use Rattle.std.proofs.Common.{◌≡◌, ◌≤◌, ◌∷◌, take, flat_map}
use Rattle.item_texts.specs.Parts as spec
use Rattle.svc_io.specs.Bytes.{Got}
use Rattle.item_texts.proofs.names.write_quoted.Given as goal

abbrev pub invariant-loop-byte : goal.invariant-loop-byte
invariant-loop-byte g l = let sink = g.W.Sink in record {
  bytes : Got (sink.given l.fn.sink) (34 ∷ flat_map spec.doubled (take l.byte-index l.name)) (sink.given l.sink);
  later : sink.faults l.fn.sink ≤ sink.faults l.sink;
  beside : sink.beside l.sink ≡ sink.beside l.fn.sink;
}
