use Rattle.std.proofs.Common.{Some, subst}
use Rattle.sql_names.specs.declared.object.Object.{Object}
use Rattle.sql_names.specs.declared.sort.Default.{Default}
use Rattle.sql_tree.specs.declared.statement.AlterTableAction.TheVariants.{SetDefault}
use Rattle.edit_rules.specs.First.{IsTested}
use Rattle.edit_rules.specs.Names.{object_in}
use Rattle.statement_steps.specs.Steps.{refusals_of}
use Rattle.table_changes.specs.Defaults.{MakesDefault, changing_default}
use Rattle.table_changes.proofs.Settled.{changed_soundly}
use Rattle.table_changes.proofs.defaults.set_default.Goals as goal

pub returns-clause-tested : goal.returns-clause-tested
returns-clause-tested c =
    let items = c.args.c.now.items in
    let who = c.args.who.now in
    let column = c.args.column.now in
    subst (λ (d : Default). IsTested (refusals_of items who (changing_default items (object_in who.schema c.args.table.now) column (Some d))) (MakesDefault items (object_in who.schema c.args.table.now) column (Some d)) c.edit_of.result) c.in_ok-copy.ensures
    (subst (λ (o : Object). IsTested (refusals_of items who (changing_default items o column (Some c.in_ok-copy.field-0))) (MakesDefault items o column (Some c.in_ok-copy.field-0)) c.edit_of.result) c.in_ok-object_in.ensures c.edit_of.ensures)

pub returns-clause-sound : goal.returns-clause-sound
returns-clause-sound c =
    let who = c.args.who.now in
    changed_soundly c.args.c.now.items who (object_in who.schema c.args.table.now) (SetDefault c.args.column.now c.args.default.now) c.edit_of.result c.requires.good c.requires.formed (returns-clause-tested c)
