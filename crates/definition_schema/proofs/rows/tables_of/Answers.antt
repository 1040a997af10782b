use Rattle.std.proofs.Common.{[]}
use Rattle.schema_tables.specs.declared.names.SchemaTable.TheVariants as t
use Rattle.definition_schema.proofs.DefinitionTables.{grows, name_at}
use Rattle.definition_schema.proofs.rows.tables_of.Goals as goal

pub table-requires : goal.table-requires
table-requires c = name_at c.args.entries.now c.loop-which.which-index (t.EnabledRoles, record { ref_ptr = (0, 0); now = [] }) c.loop-which-test.true c.requires

pub loop-which-preserved : goal.loop-which-preserved
loop-which-preserved c =
    grows c.args.c.now.items c.args.entries.now c.loop-which.which-index (t.EnabledRoles, record { ref_ptr = (0, 0); now = [] }) c.loop-which.tables.items c.push.new.self.items c.in_ok-table.field-0
    c.loop-which-test.true c.loop-which.invariant c.in_ok-table.ensures c.in_ok-push.ensures.items
