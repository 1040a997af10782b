-- What contracts see of a source over a reader and of a sink over a writer.
use Rattle.std.specs.Prelude.{ℕ}
use Rattle.svc_io.specs.declared.standard.StdSource.{StdSource}
use Rattle.svc_io.specs.declared.standard.StdSink.{StdSink}

-- the reader of a source, and how often it has failed
abbrev pub reader_of : {R : Type 0} → StdSource R → R
reader_of source = source.reader

abbrev pub read_faults : {R : Type 0} → StdSource R → ℕ
read_faults source = source.faults

-- the writer of a sink, and how often it has failed
abbrev pub writer_of : {W : Type 0} → StdSink W → W
writer_of sink = sink.writer

abbrev pub write_faults : {W : Type 0} → StdSink W → ℕ
write_faults sink = sink.faults
