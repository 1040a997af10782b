use Rattle.std.proofs.Common.{subst, sym}
use Rattle.sessions.specs.Calls.{IsApplied}
use Rattle.sample_runs.proofs.Runs.{Run-more, enough-more}
use Rattle.sample_runs.proofs.run.run_all.Goals as goal

pub loop-text-preserved : goal.loop-text-preserved
loop-text-preserved c =
    let step = subst (λ text. IsApplied c.loop-text.book text c.in_ok-run_text.field-0 c.run_text.new.book) c.bytes.ensures c.in_ok-run_text.ensures.step in
    record {
      run = rw (c.in_ok-push.ensures.items) (Run-more _ _ _ c.args.texts.now c.loop-text.text-index c.text-item.result c.loop-text.replies.items c.in_ok-run_text.field-0 c.loop-text-test.true (sym c.text-item.is) c.loop-text.invariant.run step);
      enough = rw (c.in_ok-push.ensures.items) (enough-more c.loop-text.replies.items c.in_ok-run_text.field-0 c.loop-text.invariant.enough c.in_ok-run_text.ensures.enough);
    }
