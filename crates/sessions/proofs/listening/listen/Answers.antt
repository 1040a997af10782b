use Rattle.std.proofs.Common.{◌∙◌, subst, inr, map}
use Rattle.sessions.specs.declared.server.Over.{Over}
use Rattle.sessions.specs.Serving.{GotAll}
use Rattle.sessions.proofs.Returning.{accept_from}
use Rattle.sessions.proofs.listening.listen.Goals as goal

pub returns-clause-ran : goal.returns-clause-ran
returns-clause-ran g c =
    let door = g.L.Listener in
    let r = c.serve-served.ensures in
    let back = c.give_all.ensures in
    inr (record {
      overs = c.serve-served.result.sessions.items;
      most_out = door.out c.serve-served.new.listener;
      accepted = accept_from _ _ _ _ _ _ _ _ c.serve-served.result.sessions.items r.sessions c.begin.ensures.left c.begin.ensures.out back.left;
      legal = r.legal;
      numbered = r.numbered;
      returned = subst (λ z. GotAll z (map (λ (over : Over g.row.L-Conn.Denot). over.conn) c.serve-served.result.sessions.items) (door.returned c.give_all.new.listener)) (r.returned ∙ c.begin.ensures.returned) back.returned;
      out = back.out;
      halts = r.halts;
      done = r.done;
    })
