use Rattle.std.proofs.Common.{length, ◌-◌, ◌≡◌, ◌≤◌, ◌+◌, take}
use Rattle.sql_words.specs.Stream.{rest_from}
use Rattle.sessions.specs.Runs.{Ran}
use Rattle.sessions.proofs.script.run_piece.Given as goal

abbrev pub invariant-loop-at : goal.invariant-loop-at
invariant-loop-at g l = let sink = g.W.Sink in let answering = g.A.Answerer in record {
  within : l.at ≤ length l.piece;
  fits : answering.fits l.with l.answerer;
  ran : Ran answering.steps l.fn.answerer l.fn.splitter.held (take l.at l.piece) l.answerer (sink.given l.fn.sink) (sink.given l.sink) l.fn.missed l.missed;
  held : l.splitter.held ≡ rest_from l.fn.splitter.held (take l.at l.piece);
  low : l.fn.missed ≤ l.missed;
  high : l.missed ≤ l.fn.missed + l.at;
  later : sink.faults l.fn.sink ≤ sink.faults l.sink;
  beside : sink.beside l.sink ≡ sink.beside l.fn.sink;
}

abbrev pub decreases-loop-at : goal.decreases-loop-at
decreases-loop-at g l = length l.piece - l.at
