use Rattle.std.proofs.Common.{◌≡◌, ◌≤◌, ◌+◌, ◌++◌, false, [], take, vec_len, vec_capacity}
use Rattle.sql_words.specs.Scanning.{scan_of}
use Rattle.sql_words.specs.Stream.{texts_from, Fits}
use Rattle.sql_words.proofs.splitter.Splitter.feed.Given as goal

abbrev pub invariant-loop-index : goal.invariant-loop-index
invariant-loop-index l = record {
  none : texts_from l.fn.self.held (take l.index l.piece) ≡ [];
  held : l.self-inside.buffer.items ≡ l.fn.self.held;
  fits : Fits l.fn.self.held (take l.index l.piece);
  scan : l.scan ≡ scan_of (l.fn.self.held ++ take l.index l.piece);
  few : l.index ≤ l.room;
  room : l.room + vec_len l.self-inside.buffer ≡ 65536;
  capacity : 65536 ≤ vec_capacity l.self-inside.buffer;
  going : l.self-inside.ended ≡ false;
}
