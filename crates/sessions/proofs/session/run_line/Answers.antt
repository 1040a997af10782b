use Rattle.std.proofs.Common.{arith, sym, ◌∙◌, ◌≡◌, ◌≤◌, length-take}
use Rattle.sessions.proofs.Taking.{taking-end, taking-more, taking-over, taking-broke, taking-limit, script-stop}
use Rattle.sessions.proofs.session.run_line.Goals as goal

pub returns-then-blank-clause-script : goal.returns-then-blank-clause-script
returns-then-blank-clause-script g c = rw c.in-Ok.ensures.given (taking-end _ _ _ _ _ _ _ _ _ _ _ _ c.take_from.new.buffer c.in-Ok.count _ c.loop-count.invariant.taking c.if-count-eq0.true
    c.in-Ok.ensures.bytes (c.in-Ok.ensures.end c.if-count-eq0.true) (sym c.blank.ensures ∙ c.if-blank.true))

pub returns-then-count-eq0-clause-script : goal.returns-then-count-eq0-clause-script
returns-then-count-eq0-clause-script g c = rw c.in-Ok.ensures.given (taking-end _ _ _ _ _ _ _ _ _ _ _ _ c.take_from.new.buffer c.in-Ok.count _ c.loop-count.invariant.taking c.if-count-eq0.true
    c.in-Ok.ensures.bytes (c.in-Ok.ensures.end c.if-count-eq0.true) (sym c.blank.ensures ∙ c.if-blank.false))

pub returns-in-Err-run_on-clause-script : goal.returns-in-Err-run_on-clause-script
returns-in-Err-run_on-clause-script g c =
    let kept : c.min-kept.result ≤ c.in-Ok.count = omega (arith, c.min-kept.ensures) in
    rw c.in-Err-run_on.ensures.left (script-stop _ c.in-Err-run_on.ended _ _ _ _ _ _ _ _ _ _
    (λ over. taking-over _ _ _ _ _ _ _ _ _ _ _ _ _ _ _ c.take_from.new.buffer c.in-Ok.count c.min-kept.result c.loop-count.invariant.taking c.in-Ok.ensures.bytes kept c.in-Ok.ensures.bound.1 over)
    (λ broke. taking-broke _ _ _ _ _ _ _ _ _ _ _ _ _ _ _ c.take_from.new.buffer c.in-Ok.count c.min-kept.result c.loop-count.invariant.taking c.in-Ok.ensures.bytes kept c.in-Ok.ensures.bound.1 broke)
    (rw c.in-Ok.ensures.given at c.in-Err-run_on.ensures.stop))

pub returns-then-kept-count-clause-script : goal.returns-then-kept-count-clause-script
returns-then-kept-count-clause-script g c =
    let all : c.min-kept.result ≡ c.loop-count.room = omega (arith, c.min-kept.ensures) in
    rw c.in-Ok-run_on.ensures.left (taking-limit _ _ _ _ _ _ _ _ _ _ _ _ _ _ _ c.take_from.new.buffer c.in-Ok.count c.min-kept.result c.loop-count.invariant.taking c.in-Ok.ensures.bytes c.if-kept-count.true all
    c.in-Ok.ensures.bound.0 c.in-Ok.ensures.bound.1 (rw c.in-Ok.ensures.given at c.in-Ok-run_on.ensures.ok))

pub loop-count-preserved : goal.loop-count-preserved
loop-count-preserved g c =
    let same : c.min-kept.result ≡ c.in-Ok.count = omega (arith, c.min-kept.ensures) in
    let roomy : c.min-kept.result ≤ c.loop-count.room = omega (arith, c.min-kept.ensures) in
    record {
      fits = c.in-Ok-run_on.ensures.fits;
      taking = rw c.in-Ok-run_on.ensures.left (taking-more _ _ _ _ _ _ _ _ _ _ _ _ _ _ _ _ c.take_from.new.buffer c.in-Ok.count c.min-kept.result c.loop-count.invariant.taking c.in-Ok.ensures.bytes same
          (omega (arith, c.in-Ok.ensures.bound.0)) roomy (rw c.in-Ok.ensures.given at c.in-Ok-run_on.ensures.ok) c.in-Ok-run_on.ensures.rest);
      count = omega (arith, c.in-Ok-run_on.ensures.count.1, c.loop-count.invariant.count, length-take c.min-kept.result c.take_from.new.buffer);
      take_later = omega (arith, c.loop-count.invariant.take_later, c.in-Ok.ensures.cause.later, c.in-Ok-run_on.ensures.take_faults);
      put_later = omega (arith, c.loop-count.invariant.put_later, c.in-Ok-run_on.ensures.later, c.in-Ok.ensures.put_faults);
    }
