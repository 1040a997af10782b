use Rattle.std.proofs.Common.{◌≡◌, ◌≤◌, ◌+◌, length, vec_capacity}
use Rattle.std.specs.Prelude.{MatchResult}
use Rattle.catalog_lock.specs.Passes.{Shown}
use Rattle.cat_engine.specs.declared.machine.Origin.{Origin}
use Rattle.sessions.specs.Sessions.{IsServed}
use Rattle.sessions.specs.Serving.{HasAccepted, HasBegun}
use Rattle.sessions.proofs.server.accept_all.Given as goal

abbrev pub invariant-loop-accepted : goal.invariant-loop-accepted
invariant-loop-accepted g l = let door = g.L.Listener in let source = g.L.Conn.Source in let sink = g.L.Conn.Sink in record {
  pass : l.pass ≡ record l.fn.pass { next = l._accepted + 1 };
  count : length l.sessions.items ≡ l._accepted;
  room : l.connections ≤ vec_capacity l.sessions;
  returned : door.returned l.listener ≡ door.returned l.fn.listener;
  faults : door.faults l.listener ≡ door.faults l.fn.listener;
  accepted : HasAccepted (λ number conn session. (before : Shown Origin) × HasBegun l.fn.pass.table l.fn.pass.made number before
      × MatchResult session (λ child. (child.promise.limits ≡ l.limits) × (child.promise.pass.value ≡ before) × (child.promise.conn.value ≡ conn))
      (λ past. IsServed source.left sink.given source.faults sink.faults l.limits before conn past.0 past.1 past.2))
      (door.left l.fn.listener) (door.left l.listener) (door.out l.fn.listener) (door.out l.listener) l.sessions.items;
}
