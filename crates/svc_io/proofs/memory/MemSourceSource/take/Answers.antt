use Rattle.std.proofs.Common.{Some, sym, ap, ◌∙◌, rules}
use Rattle.svc_io.specs.Memory.{joined}
use Rattle.svc_io.proofs.Pieces.{joined-front}
use Rattle.svc_io.proofs.memory.MemSourceSource.take.Goals as goal

pub returns-then-self-len-clause-bytes : goal.returns-then-self-len-clause-bytes
returns-then-self-len-clause-bytes c = ap Some (ap joined (sym c.loop-self.invariant.pieces) ∙
    joined-front c.loop-self.self-inside.pieces.items c.loop-self.self-inside.piece c.loop-self.self-inside.offset c.copy_front-count.result
    c.index-piece.result.now c.deref.result.now _ (search rules) c.index-piece.ensures c.deref.ensures.value c.copy_front-count.ensures.front)
