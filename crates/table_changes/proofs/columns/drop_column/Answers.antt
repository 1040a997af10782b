use Rattle.std.proofs.Common.{subst}
use Rattle.sql_names.specs.declared.object.Object.{Object}
use Rattle.sql_tree.specs.declared.statement.AlterTableAction.TheVariants.{DropColumn}
use Rattle.sql_tree.specs.declared.statement.Behaviour.TheVariants.{Cascade}
use Rattle.edit_rules.specs.First.{IsTested}
use Rattle.edit_rules.specs.Names.{object_in}
use Rattle.statement_steps.specs.Steps.{refusals_of}
use Rattle.table_changes.specs.DroppedColumns.{MakesColumnDrop, dropping_column}
use Rattle.table_changes.proofs.Settled.{changed_soundly}
use Rattle.table_changes.proofs.columns.drop_column.Goals as goal

pub returns-clause-tested : goal.returns-clause-tested
returns-clause-tested c =
    let items = c.args.c.now.items in
    let who = c.args.who.now in
    let column = c.args.column.now in
    subst (λ (o : Object). IsTested (refusals_of items who (dropping_column items o column)) (MakesColumnDrop items o column) c.edit_of.result) c.in_ok-object_in.ensures c.edit_of.ensures

pub returns-clause-sound : goal.returns-clause-sound
returns-clause-sound c =
    let who = c.args.who.now in
    changed_soundly c.args.c.now.items who (object_in who.schema c.args.table.now) (DropColumn c.args.column.now Cascade) c.edit_of.result c.requires tt (returns-clause-tested c)
