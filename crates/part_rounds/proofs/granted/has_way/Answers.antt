use Rattle.std.proofs.Common.{None, refl, arith}
use Rattle.role_graph.specs.Marked.{marked}
use Rattle.role_graph.proofs.LoopLemmas.{none_from}
use Rattle.part_rounds.specs.Grants.{IsWay}
use Rattle.part_rounds.proofs.granted.has_way.Goals as goal

pub loop-at-init : goal.loop-at-init
loop-at-init c = record { room = refl; low = omega arith; none = none_from c.args.c.now.items None (IsWay (marked c.args.c.now.items c.args.marks.now) c.args.grant c.args.by.now) _ }

pub is_way-requires-clause-room : goal.is_way-requires-clause-room
is_way-requires-clause-room c = rw c.loop-at.invariant.room c.requires.room
