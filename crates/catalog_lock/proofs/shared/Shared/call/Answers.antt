use Rattle.std.proofs.Common.{refl, sym, subst}
use Rattle.catalog_lock.specs.Passes.{Shown, shown}
use Rattle.catalog_lock.proofs.Answering.{same_at_last, final_view_by, called, seen_begins, still_legal}
use Rattle.catalog_lock.proofs.shared.Shared.call.Goals as goal

pub returns-clause-call : goal.returns-clause-call
returns-clause-call g c =
    let m = g.M.Machine in
    let took = c.take-machine.ensures.took in
    let view = final_view_by m.history c.kept-kept.result (m.keeps c.act-reply.result) c.pass.inside.seat.me.0 took.0 c.of-known.result.value c.act-reply.new.self
    c.take-machine.new.seat.me c.put_back.new.seat.me c.settle.new.seat.me c.release.new.seat.me _ c.kept-kept.ensures took.1 c.put_back.ensures.held c.settle.ensures.view c.release.ensures.view c.of-known.ensures in
    let table = same_at_last c.pass.inside.seat.table_id c.take-machine.new.seat.table_id c.put_back.new.seat.table_id c.settle.new.seat.table_id c.release.new.seat.table_id
    c.take-machine.ensures.table.0 c.put_back.ensures.table.0 c.settle.ensures.table.0 c.release.ensures.table.0 in
    rw (sym c.pass.view_is) (called m.history m.made m.step m.may_give (m.keeps c.act-reply.result) c.pass.inside.seat.table_id c.release.new.seat.table_id
    c.pass.inside.seat.me.0 c.release.new.seat.me.0 c.pass.inside.number c.args.text.now c.act-reply.result took.0 c.take-machine.result c.act-reply.new.self
    table c.pass.invariant.0 took.2 took.3 took.4 took.6 c.act-reply.ensures.event view)

pub returns-clause-seen : goal.returns-clause-seen
returns-clause-seen g c =
    let m = g.M.Machine in
    seen_begins m.step m.may_give (m.keeps c.act-reply.result) c.args.pass.now (shown c.release.new.seat.table_id c.release.new.seat.me.0) c.args.text.now c.act-reply.result (returns-clause-call g c)

pub returns-clause-legal : goal.returns-clause-legal
returns-clause-legal g c =
    let m = g.M.Machine in
    let took = c.take-machine.ensures.took in
    let view = final_view_by m.history c.kept-kept.result (m.keeps c.act-reply.result) c.pass.inside.seat.me.0 took.0 c.of-known.result.value c.act-reply.new.self
    c.take-machine.new.seat.me c.put_back.new.seat.me c.settle.new.seat.me c.release.new.seat.me _ c.kept-kept.ensures took.1 c.put_back.ensures.held c.settle.ensures.view c.release.ensures.view c.of-known.ensures in
    let takes = subst (λ (p : Shown g.row.M-Made.Denot). m.takes p.made c.args.text.now) (sym c.pass.view_is) c.requires.takes in
    still_legal m.history m.made m.step m.may_give m.takes m.keeps (m.keeps c.act-reply.result)
    c.pass.inside.seat.me.0 c.release.new.seat.me.0 c.pass.inside.number c.args.text.now c.act-reply.result took.0 c.take-machine.result c.act-reply.new.self
    refl takes took.5 c.pass.invariant.0 took.2 took.3 c.act-reply.ensures.event view
