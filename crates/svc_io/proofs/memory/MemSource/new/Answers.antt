use Rattle.svc_io.proofs.Pieces.{joined-with_bytes_from-zero}
use Rattle.svc_io.proofs.memory.MemSource.new.Goals as goal

pub returns-clause-bytes : goal.returns-clause-bytes
returns-clause-bytes c = joined-with_bytes_from-zero c.args.pieces.items
