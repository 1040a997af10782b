use Rattle.std.proofs.Common.{length, refl, sym, subst}
use Rattle.catalog_lock.specs.Passes.{Shown}
use Rattle.cat_engine.specs.declared.machine.Origin.{Origin}
use Rattle.sessions.specs.Serving.{HasAccepted, HasJoinedAll, IsOver}
use Rattle.sessions.specs.declared.server.Over.{Over}
use Rattle.sessions.proofs.server.fn.serve.scope.Goals as goal

pub returns : goal.returns
returns g c =
    let door = g.L.Listener in let source = g.L.Conn.Source in let sink = g.L.Conn.Sink in
    let r = c.run_all-pass.ensures in
    let same = sym c.requires.4 in
    record {
      same = refl;
      sessions = subst (λ (p : Shown Origin). HasAccepted (λ number conn (over : Over g.row.L-Conn.Denot). IsOver source.left sink.given source.faults sink.faults c.captures.limits p.made
          c.run_all-pass.result.0.seen c.run_all-pass.result.0.joined number conn over.conn over.number over.ended)
          (door.left c.captures.listener.now) (door.left c.run_all-pass.new.listener) (door.out c.captures.listener.now) (door.out c.run_all-pass.new.listener) c.run_all-pass.result.2.items) same r.sessions;
      pass = subst (λ (p : Shown Origin). HasJoinedAll (length c.run_all-pass.result.2.items) p c.run_all-pass.result.0) same r.pass;
      few = r.few;
      halts = r.halts;
      done = r.done;
      quiet = r.quiet;
      returned = r.returned;
      fault = r.fault;
      later = r.later;
    }
