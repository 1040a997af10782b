use Rattle.std.proofs.Common.{◌≡◌, take}
use Rattle.sessions.specs.EngineRuns.{missed}
use Rattle.sessions.specs.Calls.{IsApplied}
use Rattle.sessions.specs.Runs.{Run}
use Rattle.sample_runs.proofs.run.run_all.Given as goal

abbrev pub invariant-loop-text : goal.invariant-loop-text
invariant-loop-text l = record {
  run : Run IsApplied l.fn.book (take l.text-index l.texts) l.replies.items l.book;
  enough : missed l.replies.items ≡ 0;
}
