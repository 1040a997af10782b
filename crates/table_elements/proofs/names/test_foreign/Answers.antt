use Rattle.std.proofs.Common.{Err}
use Rattle.table_names.proofs.PassedLemmas.{passed_behind, refused_before}
use Rattle.table_elements.specs.Names.{unknown_columns, unknown_in_references}
use Rattle.table_elements.proofs.OwnColumns.{own_passes, own_tested}
use Rattle.table_elements.proofs.names.test_foreign.Goals as goal

pub returns-in_err-test_among : goal.returns-in_err-test_among
returns-in_err-test_among c =
    let items = c.args.c.now.items in
    let w = c.args.w.now in
    let names = c.args.columns.now in
    refused_before (Unit {0}) _ (unknown_columns items w w.table names) (unknown_in_references items c.args.who.now w c.args.references.now) c.in_err-test_among.field-0.0 c.from_residual.result c.from_residual.ensures.1
    (own_tested {T = Unit {0}} items w names (Err c.in_err-test_among.field-0.0) c.in_err-test_among.ensures)

pub returns : goal.returns
returns c =
    let items = c.args.c.now.items in
    let w = c.args.w.now in
    let names = c.args.columns.now in
    passed_behind (unknown_columns items w w.table names) (unknown_in_references items c.args.who.now w c.args.references.now) c.test_references.result (own_passes items w names c.in_ok-test_among.ensures.0) c.test_references.ensures
