use Rattle.std.proofs.Common.{rules, ◌≡◌, ◌+◌, length, ap, ◌∙◌, arith}
use Rattle.std.specs.Vec.Iter.{into_iter_items, into_iter_len}
use Rattle.catalog_lock.specs.Passes.{Shown}
use Rattle.cat_engine.specs.declared.machine.Origin.{Origin}
use Rattle.sessions.proofs.Ending.{joining_begin, joining_first, joining_room, joining_step, joining_end, over_grows, over_now}
use Rattle.sessions.proofs.server.run_all.Goals as goal

pub loop-session-init : goal.loop-session-init
loop-session-init g c = let a = c.accept_all-status.ensures in record {
  total = length c.accept_all-status.new.sessions.items;
  few = a.few;
  halts = a.halts;
  room = search rules;
  len = search rules;
  done = a.done;
  quiet = a.quiet;
  returned = a.returned;
  fault = a.fault;
  later = a.later;
  joining = joining_begin _ _ _ _ _ _ _ _ c.accept_all-status.new.sessions.items _ _ (search rules) a.accepted a.beside (search rules);
}

pub join-requires-clause-table : goal.join-requires-clause-table
join-requires-clause-table g c =
    let j = c.loop-session.invariant.joining in
    let has = joining_first _ _ _ _ _ _ _ _ _ (into_iter_items c.next.new.self) _ c.in-Some.session _ j (search rules) in
    let gone = c.finish-past.ensures c.args.limits has.1.0 has.0 has.1.2 in
    (j.table ∙ c.requires.table, ap (λ (p : Shown Origin). p.table) gone.same ∙ (has.1.1.0 ∙ c.requires.table))

pub join-requires-clause-other : goal.join-requires-clause-other
join-requires-clause-other g c = λ zero.
    let j = c.loop-session.invariant.joining in
    let has = joining_first _ _ _ _ _ _ _ _ _ (into_iter_items c.next.new.self) _ c.in-Some.session _ j (search rules) in
    let gone = c.finish-past.ensures c.args.limits has.1.0 has.0 has.1.2 in
    let number : c.finish-past.result.0.number ≡ length c.loop-session.overs.items + 1 = ap (λ (p : Shown Origin). p.number) gone.same ∙ has.1.1.2 in
    absurd (omega (arith, number, zero))

pub push_reserved-requires : goal.push_reserved-requires
push_reserved-requires g c =
    let was = c.loop-session.invariant in
    let free = joining_room _ _ _ _ _ _ _ _ _ (into_iter_items c.next.new.self) _ c.in-Some.session _ was.joining (search rules) in
    let few = was.few in let room = was.room in omega (arith, free, few, room)

pub loop-session-preserved : goal.loop-session-preserved
loop-session-preserved g c =
    let was = c.loop-session.invariant in
    let source = g.L.Conn.Source in let sink = g.L.Conn.Sink in
    record {
      total = was.total;
      few = was.few;
      halts = was.halts;
      room = search rules;
      len = search rules;
      done = was.done;
      quiet = was.quiet;
      returned = was.returned;
      fault = was.fault;
      later = was.later;
      joining = joining_step _ _
          (λ s s' a a' longer keeps n conn over. over_grows source.left sink.given source.faults sink.faults c.args.limits c.args.pass.made s s' a a' longer keeps n conn over.conn over.number over.ended)
          _ _ _ _ _ c.loop-session.pass c.join.new.pass c.finish-past.result.0 _ (into_iter_items c.next.new.self) _ _ c.in-Some.session _ was.total was.joining (search rules) c.push_reserved.ensures.items c.join.ensures.joined c.join.ensures.seen.0
          (λ conn has. over_now source.left sink.given source.faults sink.faults c.args.limits c.args.pass.table c.args.pass.made c.loop-session.pass c.join.new.pass has.0 c.finish-past.result.0
          (length c.loop-session.overs.items + 1) conn c.finish-past.result.1 c.number-number.result c.finish-past.result.2 has.1 (c.finish-past.ensures c.args.limits has.0 conn has.2) c.join.ensures.joined c.join.ensures.seen.1 c.number-number.ensures);
    }

pub returns-clause-sessions : goal.returns-clause-sessions
returns-clause-sessions g c =
    let zero : into_iter_len c.loop-session.session-iterator ≡ 0 = search rules in
    let len = c.loop-session.invariant.len in
    (joining_end _ _ _ _ _ _ _ _ _ _ _ c.loop-session.invariant.joining (omega (arith, zero, len))).0

pub returns-clause-pass : goal.returns-clause-pass
returns-clause-pass g c =
    let zero : into_iter_len c.loop-session.session-iterator ≡ 0 = search rules in
    let len = c.loop-session.invariant.len in
    (joining_end _ _ _ _ _ _ _ _ _ _ _ c.loop-session.invariant.joining (omega (arith, zero, len))).1

pub returns-clause-few : goal.returns-clause-few
returns-clause-few g c =
    let zero : into_iter_len c.loop-session.session-iterator ≡ 0 = search rules in
    let len = c.loop-session.invariant.len in
    let few = c.loop-session.invariant.few in
    omega (arith, zero, len, few)
