use Rattle.std.proofs.Common.{subst, sym}
use Rattle.sql_tree.specs.declared.statement.AlterTableAction.{AlterTableAction}
use Rattle.edit_rules.specs.First.{IsTested}
use Rattle.edit_rules.specs.Names.{object_in}
use Rattle.statement_steps.specs.Steps.{refusals_of}
use Rattle.table_additions.specs.Alterations.{alteration_steps}
use Rattle.table_additions.proofs.Settled.{altered_soundly, as_standing, is_standing}
use Rattle.table_additions.proofs.altering.alter_table.Goals as goal

pub returns-in-AddColumn-clause-tested : goal.returns-in-AddColumn-clause-tested
returns-in-AddColumn-clause-tested c =
    let items = c.args.c.now.items in
    let who = c.args.who.now in
    let table = object_in who.schema c.args.statement.now.table in
    subst (λ (a : AlterTableAction). IsTested (refusals_of items who (alteration_steps items who table a)) (alteration_steps items who table a).edit c.add_column.result) (sym c.in-AddColumn.is) c.add_column.ensures

pub returns-in-AddColumn-clause-sound : goal.returns-in-AddColumn-clause-sound
returns-in-AddColumn-clause-sound c = altered_soundly c.args.c.now.items c.args.who.now c.args.statement.now c.add_column.result c.requires.good c.requires.written (returns-in-AddColumn-clause-tested c)

pub returns-in-AddConstraint-clause-tested : goal.returns-in-AddConstraint-clause-tested
returns-in-AddConstraint-clause-tested c =
    let items = c.args.c.now.items in
    let who = c.args.who.now in
    let table = object_in who.schema c.args.statement.now.table in
    subst (λ (a : AlterTableAction). IsTested (refusals_of items who (alteration_steps items who table a)) (alteration_steps items who table a).edit c.add_constraint.result) (sym c.in-AddConstraint.is) c.add_constraint.ensures

pub returns-in-AddConstraint-clause-sound : goal.returns-in-AddConstraint-clause-sound
returns-in-AddConstraint-clause-sound c = altered_soundly c.args.c.now.items c.args.who.now c.args.statement.now c.add_constraint.result c.requires.good c.requires.written (returns-in-AddConstraint-clause-tested c)

pub alter_standing-requires-clause-standing : goal.alter_standing-requires-clause-standing
alter_standing-requires-clause-standing c = is_standing c.args.statement.now.action c.in_default.not-AddColumn c.in_default.not-AddConstraint

pub returns-in_default-clause-tested : goal.returns-in_default-clause-tested
returns-in_default-clause-tested c =
    as_standing c.args.c.now.items c.args.who.now (object_in c.args.who.now.schema c.args.statement.now.table) c.args.statement.now.action c.alter_standing.result
    (is_standing c.args.statement.now.action c.in_default.not-AddColumn c.in_default.not-AddConstraint) c.alter_standing.ensures.tested
