use Rattle.std.proofs.Common.{rules}
use Rattle.definition_schema.specs.declared.rows.DefTable.{DefTable}
use Rattle.printed_rows.proofs.Fronts.{broke_off}
use Rattle.printed_tables.specs.TableTexts.{table_text}
use Rattle.printed_tables.proofs.tables.write_tables.Goals as goal

pub returns-in-Err-clause-bytes : goal.returns-in-Err-clause-bytes
returns-in-Err-clause-bytes g c =
    broke_off (λ (table : DefTable). table_text table.name table.rows.items) c.args.rows.now.tables.items c.loop-table.table-index c.table-item.result c.table-item.result _ _ _ (search rules) (search rules) c.loop-table.invariant.bytes c.in-Err.ensures.bytes
