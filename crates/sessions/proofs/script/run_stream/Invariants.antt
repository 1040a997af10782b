use Rattle.std.proofs.Common.{◌≡◌, ◌≤◌, ◌+◌}
use Rattle.sessions.specs.Calls.{IsApplied}
use Rattle.sessions.proofs.Taking.{Taking}
use Rattle.sessions.proofs.script.run_stream.Given as goal

abbrev pub invariant-loop-count : goal.invariant-loop-count
invariant-loop-count g l = let source = g.S.Source in let sink = g.W.Sink in record {
  taking : Taking IsApplied l.fn.limits.stream l.room l.fn.book l.book l.splitter.held (source.left l.fn.source) (source.left l.source) (sink.given l.fn.sink) (sink.given l.sink) l.missed;
  count : l.missed + l.room ≤ l.fn.limits.stream;
  source_later : source.faults l.fn.source ≤ source.faults l.source;
  sink_later : sink.faults l.fn.sink ≤ sink.faults l.sink;
  source_beside : source.beside l.source ≡ source.beside l.fn.source;
  sink_beside : sink.beside l.sink ≡ sink.beside l.fn.sink;
}

abbrev pub decreases-loop-count : goal.decreases-loop-count
decreases-loop-count g l = l.room
