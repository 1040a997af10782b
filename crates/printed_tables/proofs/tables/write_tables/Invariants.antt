use Rattle.std.proofs.Common.{◌≡◌, ◌≤◌, take}
use Rattle.svc_io.specs.Bytes.{Got}
use Rattle.printed_tables.specs.TableTexts as texts
use Rattle.printed_tables.proofs.tables.write_tables.Given as goal

abbrev pub invariant-loop-table : goal.invariant-loop-table
invariant-loop-table g l = let sink = g.W.Sink in record {
  bytes : Got (sink.given l.fn.sink) (texts.tables_text (take l.table-index l.rows.tables.items)) (sink.given l.sink);
  later : sink.faults l.fn.sink ≤ sink.faults l.sink;
  beside : sink.beside l.sink ≡ sink.beside l.fn.sink;
}
