use Rattle.std.proofs.Common.{length, ◌-◌, ◌≡◌, ◌≤◌, take}
use Rattle.svc_io.specs.Bytes.{Got}
use Rattle.svc_io.proofs.put.put_all.Given as goal

abbrev pub invariant-loop-at : goal.invariant-loop-at
invariant-loop-at g l = let sink = g.W.Sink in record {
  within : l.at ≤ length l.bytes;
  bytes : Got (sink.given l.fn.sink) (take l.at l.bytes) (sink.given l.sink);
  faults : sink.faults l.sink ≡ sink.faults l.fn.sink;
  beside : sink.beside l.sink ≡ sink.beside l.fn.sink;
}

abbrev pub decreases-loop-at : goal.decreases-loop-at
decreases-loop-at g l = length l.bytes - l.at
