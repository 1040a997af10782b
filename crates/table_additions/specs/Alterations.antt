-- ALTER TABLE, by its action: the refusals in order, and the edit (alter table statement, SQL:2003 part 2, 11.10).
use Rattle.std.specs.Prelude.{List, [], ◌∷◌}
use Rattle.sql_names.specs.declared.object.Object.{Object}
use Rattle.sql_tree.specs.declared.statement.AlterTable.{AlterTable}
use Rattle.sql_tree.specs.declared.statement.AlterTableAction.{AlterTableAction}
use Rattle.sql_tree.specs.declared.statement.AlterTableAction.TheVariants.{AddColumn, AddConstraint}
use Rattle.cat_items.specs.declared.edit.Edit.{Edit}
use Rattle.cat_items.specs.declared.edit.Refusal.{Refusal}
use Rattle.cat_items.specs.declared.edit.Who.{Who}
use Rattle.cat_items.specs.declared.item.Item.{Item}
use Rattle.edit_rules.specs.Names.{object_in}
use Rattle.statement_steps.specs.Steps.{Steps, refusals_of}
use Rattle.table_parts.specs.declared.parts.Part.TheVariants.{Constraint}
use Rattle.table_parts.specs.Parts.{column_parts}
use Rattle.table_changes.specs.Changes.{changing}
use Rattle.table_additions.specs.Additions.{steps_of_parts}

-- a column comes with its constraints; the other actions are of what stands
abbrev pub alteration_steps : List Item → Who → Object → AlterTableAction → Steps
alteration_steps c who table (AddColumn d) = steps_of_parts c who table (column_parts d)
alteration_steps c who table (AddConstraint k) = steps_of_parts c who table (Constraint k ∷ [])
alteration_steps c who table action = changing c table action

abbrev pub alter_table_refusals : List Item → Who → AlterTable → List (Refusal → Type 0)
alter_table_refusals c who s = refusals_of c who (alteration_steps c who (object_in who.schema s.table) s.action)

abbrev pub IsTableAlteration : List Item → Who → AlterTable → Edit → Type 0
IsTableAlteration c who s = (alteration_steps c who (object_in who.schema s.table) s.action).edit
