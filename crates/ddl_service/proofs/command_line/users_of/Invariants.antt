use Rattle.std.proofs.Common.{map}
use Rattle.ddl_service.proofs.UserLists.{SoFar}
use Rattle.ddl_service.proofs.command_line.users_of.Given as goal

abbrev pub invariant-loop-part : goal.invariant-loop-part
invariant-loop-part l = SoFar (map (λ part. part.now) l.parts) l.part-index l.names.items
