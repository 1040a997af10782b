use Rattle.table_parts.specs.Columns.{IsNotNull}
use Rattle.table_work.specs.Columns.{is_not_null}
use Rattle.table_work.proofs.ColumnLemmas.{null_told, one_told}
use Rattle.table_work.proofs.described.is_without_null.Goals as goal

pub returns : goal.returns
returns c = one_told c.is_not_null.result (is_not_null c.args.parts.now c.args.definition.now) (IsNotNull c.args.parts.now c.args.definition.now) c.is_not_null.ensures (null_told c.args.parts.now c.args.definition.now)
