use Rattle.std.proofs.Common.{arith, sym, ◌∙◌, ◌≡◌, ◌≤◌, length-take}
use Rattle.sessions.specs.Calls.{IsApplied}
use Rattle.sessions.proofs.Taking.{taking-end, taking-more, taking-over, taking-broke, taking-limit, script-stop}
use Rattle.sessions.proofs.script.run_stream.Goals as goal

pub returns-then-blank-clause-script : goal.returns-then-blank-clause-script
returns-then-blank-clause-script g c = taking-end IsApplied _ _ _ _ _ _ _ _ _ _ _ c.take_piece.new.buffer c.in-Ok.count _ c.loop-count.invariant.taking c.if-count-eq0.true
    c.in-Ok.ensures.bytes (c.in-Ok.ensures.end c.if-count-eq0.true) (sym c.blank.ensures ∙ c.if-blank.true)

pub returns-then-count-eq0-clause-script : goal.returns-then-count-eq0-clause-script
returns-then-count-eq0-clause-script g c = taking-end IsApplied _ _ _ _ _ _ _ _ _ _ _ c.take_piece.new.buffer c.in-Ok.count _ c.loop-count.invariant.taking c.if-count-eq0.true
    c.in-Ok.ensures.bytes (c.in-Ok.ensures.end c.if-count-eq0.true) (sym c.blank.ensures ∙ c.if-blank.false)

pub returns-in-Err-run_piece-clause-script : goal.returns-in-Err-run_piece-clause-script
returns-in-Err-run_piece-clause-script g c =
    let kept : c.min-kept.result ≤ c.in-Ok.count = omega (arith, c.min-kept.ensures) in
    script-stop IsApplied c.in-Err-run_piece.ended _ _ _ _ _ _ _ _ _ _
    (λ over. taking-over IsApplied _ _ _ _ _ _ _ _ _ _ _ _ _ _ c.take_piece.new.buffer c.in-Ok.count c.min-kept.result c.loop-count.invariant.taking c.in-Ok.ensures.bytes kept c.in-Ok.ensures.bound.1 over)
    (λ broke. taking-broke IsApplied _ _ _ _ _ _ _ _ _ _ _ _ _ _ c.take_piece.new.buffer c.in-Ok.count c.min-kept.result c.loop-count.invariant.taking c.in-Ok.ensures.bytes kept c.in-Ok.ensures.bound.1 broke) c.in-Err-run_piece.ensures.stop

pub returns-then-kept-count-clause-script : goal.returns-then-kept-count-clause-script
returns-then-kept-count-clause-script g c =
    let all : c.min-kept.result ≡ c.loop-count.room = omega (arith, c.min-kept.ensures) in
    taking-limit IsApplied _ _ _ _ _ _ _ _ _ _ _ _ _ _ c.take_piece.new.buffer c.in-Ok.count c.min-kept.result c.loop-count.invariant.taking c.in-Ok.ensures.bytes c.if-kept-count.true all
    c.in-Ok.ensures.bound.0 c.in-Ok.ensures.bound.1 c.in-Ok-run_piece.ensures.ok

pub loop-count-preserved : goal.loop-count-preserved
loop-count-preserved g c =
    let same : c.min-kept.result ≡ c.in-Ok.count = omega (arith, c.min-kept.ensures) in
    let roomy : c.min-kept.result ≤ c.loop-count.room = omega (arith, c.min-kept.ensures) in
    record {
      taking = taking-more IsApplied _ _ _ _ _ _ _ _ _ _ _ _ _ _ _ c.take_piece.new.buffer c.in-Ok.count c.min-kept.result c.loop-count.invariant.taking c.in-Ok.ensures.bytes same (omega (arith, c.in-Ok.ensures.bound.0)) roomy
          c.in-Ok-run_piece.ensures.ok c.in-Ok-run_piece.ensures.rest;
      count = omega (arith, c.in-Ok-run_piece.ensures.count.1, c.loop-count.invariant.count, length-take c.min-kept.result c.take_piece.new.buffer);
      source_later = omega (arith, c.loop-count.invariant.source_later, c.in-Ok.ensures.cause.later);
      sink_later = omega (arith, c.loop-count.invariant.sink_later, c.in-Ok-run_piece.ensures.later);
      source_beside = c.in-Ok.ensures.beside ∙ c.loop-count.invariant.source_beside;
      sink_beside = c.in-Ok-run_piece.ensures.beside ∙ c.loop-count.invariant.sink_beside;
    }
