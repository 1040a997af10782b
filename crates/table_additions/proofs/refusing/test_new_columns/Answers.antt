use Rattle.edit_rules.proofs.TestLists.{exit_at, pass_next}
use Rattle.table_additions.specs.Additions.{column_taken}
use Rattle.table_additions.proofs.refusing.test_new_columns.Goals as goal

pub returns-in_err-test_new_part : goal.returns-in_err-test_new_part
returns-in_err-test_new_part c =
    exit_at (column_taken c.args.c.now.items c.args.table.now) c.args.parts.now c.as_slice-part-items.result.now c.loop-part.part-index c.as_slice-part-items.ensures (Unit {0}) (Unit {0}) c.part-item.result c.in_err-test_new_part.field-0.0
    c.from_residual.result c.from_residual.ensures.1 c.loop-part-test.true c.part-item.is c.loop-part.invariant.before c.in_err-test_new_part.ensures

pub loop-part-preserved : goal.loop-part-preserved
loop-part-preserved c = record {
  before = pass_next (column_taken c.args.c.now.items c.args.table.now) c.args.parts.now c.as_slice-part-items.result.now c.loop-part.part-index c.as_slice-part-items.ensures c.part-item.result c.loop-part-test.true c.part-item.is c.loop-part.invariant.before c.in_ok-test_new_part.ensures.0;
}
