use Rattle.std.proofs.Common.{subst, sym}
use Rattle.sql_tree.specs.declared.statement.AlterTableAction.{AlterTableAction}
use Rattle.edit_rules.specs.First.{IsTested}
use Rattle.edit_rules.specs.Names.{object_in}
use Rattle.statement_steps.specs.Steps.{refusals_of}
use Rattle.table_changes.specs.Changes.{changing}
use Rattle.table_changes.proofs.WrittenDefaults.{IsFormedAction, formed_action}
use Rattle.table_changes.proofs.changes.alter_standing.Goals as goal

pub set_default-requires-clause-formed : goal.set_default-requires-clause-formed
set_default-requires-clause-formed c = subst IsFormedAction c.in-SetDefault.is (formed_action c.args.statement.now c.requires.written)

pub returns-in-SetDefault-clause-tested : goal.returns-in-SetDefault-clause-tested
returns-in-SetDefault-clause-tested c =
    let items = c.args.c.now.items in
    let who = c.args.who.now in
    let table = object_in who.schema c.args.statement.now.table in
    subst (λ (a : AlterTableAction). IsTested (refusals_of items who (changing items table a)) (changing items table a).edit c.set_default.result) (sym c.in-SetDefault.is) c.set_default.ensures.tested

pub returns-in-DropDefault-clause-tested : goal.returns-in-DropDefault-clause-tested
returns-in-DropDefault-clause-tested c =
    let items = c.args.c.now.items in
    let who = c.args.who.now in
    let table = object_in who.schema c.args.statement.now.table in
    subst (λ (a : AlterTableAction). IsTested (refusals_of items who (changing items table a)) (changing items table a).edit c.drop_default.result) (sym c.in-DropDefault.is) c.drop_default.ensures.tested

pub returns-in-DropColumn-clause-tested : goal.returns-in-DropColumn-clause-tested
returns-in-DropColumn-clause-tested c =
    let items = c.args.c.now.items in
    let who = c.args.who.now in
    let table = object_in who.schema c.args.statement.now.table in
    subst (λ (a : AlterTableAction). IsTested (refusals_of items who (changing items table a)) (changing items table a).edit c.drop_column.result) (sym c.in-DropColumn.is) c.drop_column.ensures.tested

pub returns-in-DropConstraint-clause-tested : goal.returns-in-DropConstraint-clause-tested
returns-in-DropConstraint-clause-tested c =
    let items = c.args.c.now.items in
    let who = c.args.who.now in
    let table = object_in who.schema c.args.statement.now.table in
    subst (λ (a : AlterTableAction). IsTested (refusals_of items who (changing items table a)) (changing items table a).edit c.drop_constraint.result) (sym c.in-DropConstraint.is) c.drop_constraint.ensures.tested
