use Rattle.std.proofs.Common.{◌≡◌, ◌≤◌, length}
use Rattle.std.specs.Vec.Iter.{into_iter_items, into_iter_len}
use Rattle.sessions.specs.declared.server.Over.{Over}
use Rattle.sessions.proofs.Returning.{Returning}
use Rattle.sessions.proofs.listening.give_all.Given as goal

abbrev pub invariant-loop-over : goal.invariant-loop-over
invariant-loop-over g l = let door = g.L.Listener in record {
  left : door.left l.listener ≡ door.left l.fn.listener;
  faults : door.faults l.listener ≡ door.faults l.fn.listener;
  len : length (into_iter_items l.over-iterator) ≡ into_iter_len l.over-iterator;
  room : into_iter_len l.over-iterator ≤ door.out l.listener;
  returning : Returning (λ (over : Over g.row.L-Conn.Denot). over.conn) (door.returned l.fn.listener) (door.returned l.listener) (door.out l.fn.listener) (door.out l.listener) l.fn.sessions.items (into_iter_items l.over-iterator);
}
