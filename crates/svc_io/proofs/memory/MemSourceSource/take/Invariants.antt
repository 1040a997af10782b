use Rattle.std.proofs.Common.{◌≡◌, ◌-◌, drop, vec_len}
use Rattle.svc_io.specs.Calls.{made_one}
use Rattle.svc_io.specs.Memory.{with_bytes_from}
use Rattle.svc_io.proofs.memory.MemSourceSource.take.Given as goal

abbrev pub invariant-loop-self : goal.invariant-loop-self
invariant-loop-self l = record {
  pieces : with_bytes_from l.self-inside.offset (drop l.self-inside.piece l.self-inside.pieces.items) ≡ l.fn.self.pieces;
  calls : l.self-inside.calls ≡ made_one l.fn.self.calls;
  into : l.into ≡ l.fn.into;
}

abbrev pub decreases-loop-self : goal.decreases-loop-self
decreases-loop-self l = vec_len l.self-inside.pieces - l.self-inside.piece
