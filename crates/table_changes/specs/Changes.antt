-- ALTER TABLE of what stands, by its action: the refusals in order, and the edit (alter table statement, SQL:2003 part 2, 11.10).
use Rattle.std.specs.Prelude.{List, [], None, Some}
use Rattle.sql_names.specs.NameBytes.{NameBytes}
use Rattle.sql_names.specs.declared.object.Object.{Object}
use Rattle.sql_tree.specs.declared.statement.AlterTable.{AlterTable}
use Rattle.sql_tree.specs.declared.statement.AlterTableAction.{AlterTableAction}
use Rattle.sql_tree.specs.declared.statement.AlterTableAction.TheVariants.{AddColumn, AddConstraint, SetDefault, DropDefault, DropColumn, DropConstraint}
use Rattle.cat_items.specs.declared.edit.Edit.{Edit}
use Rattle.cat_items.specs.declared.edit.Refusal.{Refusal}
use Rattle.cat_items.specs.declared.edit.Who.{Who}
use Rattle.cat_items.specs.declared.item.Item.{Item}
use Rattle.edit_rules.specs.Names.{object_in}
use Rattle.statement_steps.specs.Steps.{Steps, refusals_of}
use Rattle.table_changes.specs.Defaults.{changing_default}
use Rattle.table_changes.specs.DroppedColumns.{dropping_column}
use Rattle.table_changes.specs.DroppedConstraints.{dropping_constraint}

-- all actions but ADD
abbrev pub IsOfStanding : AlterTableAction → Type 0
IsOfStanding (AddColumn definition) = ⊥
IsOfStanding (AddConstraint constraint) = ⊥
IsOfStanding action = Unit {0}

-- what ADD doesn't say
abbrev pub no_change : NameBytes → Steps
no_change schema = record { by_tree = []; names = []; schema = schema; taken = []; rules = []; needs = λ need. ⊥; edit = λ edit. ⊥ }

abbrev pub changing : List Item → Object → AlterTableAction → Steps
changing c table (SetDefault column default) = changing_default c table column (Some default)
changing c table (DropDefault column) = changing_default c table column None
changing c table (DropColumn column behaviour) = dropping_column c table column
changing c table (DropConstraint constraint behaviour) = dropping_constraint c table constraint
changing c table action = no_change table.schema

abbrev pub change_refusals : List Item → Who → AlterTable → List (Refusal → Type 0)
change_refusals c who s = refusals_of c who (changing c (object_in who.schema s.table) s.action)

abbrev pub IsTableChange : List Item → Who → AlterTable → Edit → Type 0
IsTableChange c who s edit = (changing c (object_in who.schema s.table) s.action).edit edit
