use Rattle.std.proofs.Common.{List, subst}
use Rattle.sql_names.specs.declared.object.Object.{Object}
use Rattle.edit_rules.specs.First.{IsTested}
use Rattle.edit_rules.specs.Names.{object_in}
use Rattle.statement_steps.specs.Steps.{refusals_of}
use Rattle.table_parts.specs.declared.parts.Part.{Part}
use Rattle.table_creation.specs.Tables.{MakesTable, steps_of_table}
use Rattle.table_creation.proofs.NewTables.{created_soundly}
use Rattle.table_creation.proofs.creating.create_table.Goals as goal

pub returns-clause-tested : goal.returns-clause-tested
returns-clause-tested c =
    let items = c.args.c.now.items in
    let who = c.args.who.now in
    let parts : List Part = c.in_ok-parts_of.field-0 in
    let table : Object = object_in who.schema c.args.statement.now.table in
    subst (λ (all : List Part). IsTested (refusals_of items who (steps_of_table items who table all)) (MakesTable items who table all) c.edit_of.result) c.in_ok-parts_of.ensures
    (subst (λ (o : Object). IsTested (refusals_of items who (steps_of_table items who o parts)) (MakesTable items who o parts) c.edit_of.result) c.in_ok-object_in.ensures c.edit_of.ensures)

pub returns-clause-sound : goal.returns-clause-sound
returns-clause-sound c = created_soundly c.args.c.now.items c.args.who.now c.args.statement.now c.edit_of.result c.requires.good c.requires.written (returns-clause-tested c)
