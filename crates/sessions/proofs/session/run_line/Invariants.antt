use Rattle.std.proofs.Common.{◌≤◌, ◌+◌}
use Rattle.sessions.proofs.Taking.{Taking}
use Rattle.sessions.proofs.session.run_line.Given as goal

abbrev pub invariant-loop-count : goal.invariant-loop-count
invariant-loop-count g l = let source = g.C.Source in let sink = g.C.Sink in let answering = g.A.Answerer in record {
  fits : answering.fits l.with l.answerer;
  taking : Taking answering.steps l.fn.limits.stream l.room l.fn.answerer l.answerer l.splitter.held (source.left l.fn.conn) (source.left l.conn) (sink.given l.fn.conn) (sink.given l.conn) l.missed;
  count : l.missed + l.room ≤ l.fn.limits.stream;
  take_later : source.faults l.fn.conn ≤ source.faults l.conn;
  put_later : sink.faults l.fn.conn ≤ sink.faults l.conn;
}

abbrev pub decreases-loop-count : goal.decreases-loop-count
decreases-loop-count g l = l.room
