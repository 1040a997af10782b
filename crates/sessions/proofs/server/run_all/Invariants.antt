use Rattle.std.proofs.Common.{◌≡◌, ◌≤◌, ℕ, ◌+◌, length, vec_capacity}
use Rattle.std.specs.Prelude.{MatchResult}
use Rattle.std.specs.Vec.Iter.{into_iter_items, into_iter_len}
use Rattle.catalog_lock.specs.Passes.{Shown}
use Rattle.cat_engine.specs.declared.machine.Origin.{Origin}
use Rattle.svc_io.specs.Faults.{Rose}
use Rattle.sessions.specs.declared.status.Status.TheVariants as status
use Rattle.sessions.specs.Sessions.{IsServed}
use Rattle.sessions.specs.Serving.{HasBegun, Halts, IsOver}
use Rattle.sessions.proofs.Ending.{Joining}
use Rattle.sessions.proofs.server.run_all.Given as goal

abbrev pub invariant-loop-session : goal.invariant-loop-session
invariant-loop-session g l = let door = g.L.Listener in let source = g.L.Conn.Source in let sink = g.L.Conn.Sink in record {
  total : ℕ;
  few : total ≤ l.fn.connections;
  halts : Halts l.status;
  room : l.fn.connections ≤ vec_capacity l.overs;
  len : length l.overs.items + into_iter_len l.session-iterator ≡ total;
  done : l.status ≡ status.Done → total ≡ l.fn.connections;
  quiet : l.status ≡ status.Done → door.faults l.listener ≡ door.faults l.fn.listener;
  returned : door.returned l.listener ≡ door.returned l.fn.listener;
  fault : l.status ≡ status.ListenFault → Rose (door.faults l.fn.listener) (door.faults l.listener);
  later : door.faults l.fn.listener ≤ door.faults l.listener;
  joining : Joining (λ number conn session. (before : Shown Origin) × HasBegun l.fn.pass.table l.fn.pass.made number before
      × MatchResult session (λ child. (child.promise.limits ≡ l.fn.limits) × (child.promise.pass.value ≡ before) × (child.promise.conn.value ≡ conn))
      (λ past. IsServed source.left sink.given source.faults sink.faults l.fn.limits before conn past.0 past.1 past.2))
      (λ seen joined number conn over. IsOver source.left sink.given source.faults sink.faults l.fn.limits l.fn.pass.made seen joined number conn over.conn over.number over.ended)
      (door.left l.fn.listener) (door.left l.listener) (door.out l.fn.listener) (door.out l.listener) l.fn.pass l.pass (into_iter_items l.session-iterator) l.overs.items total;
}
