use Rattle.std.proofs.Common.{subst, List, ℕ}
use Rattle.svc_io.specs.Bytes.{Got, GotFront}
use Rattle.printed_tables.proofs.Texts.{rows_of, same_text}
use Rattle.printed_tables.proofs.definition.write_definition.Goals as goal

pub returns-in-Ok-write_tables-clause-bytes : goal.returns-in-Ok-write_tables-clause-bytes
returns-in-Ok-write_tables-clause-bytes g c =
    let items = c.args.c.now.items in
    let tables = c.in-Ok.rows.tables.items in
    let made = c.in-Ok.ensures in
    let sink = g.W.Sink in
    (made.rows, rows_of items tables made, subst (λ (text : List ℕ). Got (sink.given c.args.sink.now) text (sink.given c.write_tables.new.sink)) (same_text items tables made) c.in-Ok-write_tables.ensures.bytes)

pub returns-in-Ok-clause-bytes : goal.returns-in-Ok-clause-bytes
returns-in-Ok-clause-bytes g c =
    let items = c.args.c.now.items in
    let tables = c.in-Ok.rows.tables.items in
    let made = c.in-Ok.ensures in
    let sink = g.W.Sink in
    (made.rows, rows_of items tables made, subst (λ (text : List ℕ). GotFront (sink.given c.args.sink.now) text (sink.given c.write_tables.new.sink)) (same_text items tables made) c.in-Err-write_tables.ensures.bytes)
