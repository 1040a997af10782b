-- ALTER TABLE of what stands, by its definition: it is sound, it has one refusal at most and one edit, and it leaves all users.
use Rattle.std.proofs.Common.{◌≡◌, List, ◌∷◌, None, Some, Ok, Err, refl, sym, subst, ◌∙◌}
use Rattle.std.proofs.lemmas.List.Elements.{All-nil}
use Rattle.std.specs.Prelude.{IfOk}
use Rattle.std.specs.declared.result.Result.{Result}
use Rattle.sql_names.specs.declared.object.Object.{Object}
use Rattle.sql_tree.specs.declared.statement.AlterTable.{AlterTable}
use Rattle.sql_tree.specs.declared.statement.AlterTableAction.{AlterTableAction}
use Rattle.sql_tree.specs.declared.statement.AlterTableAction.TheVariants.{AddColumn, AddConstraint, SetDefault, DropDefault, DropColumn, DropConstraint}
use Rattle.sql_tree.specs.declared.statement.Statement.TheVariants as statements
use Rattle.cat_items.specs.declared.edit.Edit.{Edit}
use Rattle.cat_items.specs.declared.edit.EditError.{EditError}
use Rattle.cat_items.specs.declared.edit.Refusal.{Refusal}
use Rattle.cat_items.specs.declared.edit.Refusal.TheVariants.{UnknownName}
use Rattle.cat_items.specs.declared.edit.Who.{Who}
use Rattle.cat_items.specs.declared.item.Item.{Item}
use Rattle.cat_items.specs.Good.{IsGood}
use Rattle.cat_items.specs.Pieces.{IsResolved}
use Rattle.cat_items.specs.Reach.{Has}
use Rattle.cat_items.specs.Rights.{path_of, IsBaseTable, IsColumn}
use Rattle.edit_rules.specs.First.{First, IsTested, Passes}
use Rattle.edit_rules.specs.Names.{object_in, unknown_base_table}
use Rattle.edit_rules.proofs.FirstLaws.{AreSettled, passes_first}
use Rattle.edit_laws.specs.Sound.{IsSound}
use Rattle.edit_laws.specs.Users.{LeavesUsers}
use Rattle.statement_forms.specs.Written.{IsWritten}
use Rattle.statement_steps.specs.Steps.{Nothing, Steps, refusals_of}
use Rattle.statement_steps.proofs.Settled.{edit_settled, steps_settled}
use Rattle.statement_steps.proofs.StepLaws.{names_pass}
use Rattle.table_changes.specs.Changes.{IsTableChange, change_refusals, changing, no_change}
use Rattle.table_changes.specs.Defaults.{IsWithDefault, changing_default}
use Rattle.table_changes.specs.DroppedColumns.{GoesWithColumn, dropping_column}
use Rattle.table_changes.specs.DroppedConstraints.{IsConstraintOf, dropping_constraint}
use Rattle.table_changes.proofs.SoundDefaults.{default_leaves_users, sound_default}
use Rattle.table_changes.proofs.SoundDrops.{column_drop_leaves_users, constraint_drop_leaves_users, sound_column_drop, sound_constraint_drop}
use Rattle.table_changes.proofs.WrittenDefaults.{IsFormedAction, formed_action}

-- where nothing refuses, the table is a base table
table_stands : (c : List Item) (who : Who) (table : Object) (s : Steps) (more : List (Refusal → Type 0)) → s.names ≡ unknown_base_table c table ∷ more → Passes (First (refusals_of c who s)) → ¬ (¬ (Has c (IsBaseTable table)))
table_stands c who table s more is passed none =
    let names : Passes (First (unknown_base_table c table ∷ more)) = subst (λ (l : List (Refusal → Type 0)). Passes (First l)) is (names_pass c who s passed) in
    passes_first (unknown_base_table c table) more names (UnknownName (path_of table)) (none, refl)

pub sound_changing : (c : List Item) (who : Who) (table : Object) (action : AlterTableAction) (edit : Edit) → IsGood c → IsFormedAction action → Passes (First (refusals_of c who (changing c table action))) → (changing c table action).edit edit → IsSound c edit
sound_changing c who table (SetDefault column default) edit good formed passed is =
    sound_default c table column (Some default) edit good (table_stands c who table (changing_default c table column (Some default)) _ refl passed) formed is
sound_changing c who table (DropDefault column) edit good formed passed is =
    sound_default c table column None edit good (table_stands c who table (changing_default c table column None) _ refl passed) (All-nil IsResolved) is
sound_changing c who table (DropColumn column how) edit good formed passed is = sound_column_drop c table column edit good (table_stands c who table (dropping_column c table column) _ refl passed) is
sound_changing c who table (DropConstraint constraint how) edit good formed passed is = sound_constraint_drop c table constraint edit good is
sound_changing c who table (AddColumn definition) edit good formed passed is = absurd is
sound_changing c who table (AddConstraint constraint) edit good formed passed is = absurd is

pub changed_soundly : (c : List Item) (who : Who) (table : Object) (action : AlterTableAction) (result : Result Edit EditError) → IsGood c → IsFormedAction action
    → IsTested (refusals_of c who (changing c table action)) (changing c table action).edit result → IfOk result (IsSound c)
changed_soundly c who table action (Ok edit) good formed tested = sound_changing c who table action edit good formed tested.0 tested.1
changed_soundly c who table action (Err e) good formed tested = tt

-- ---- what the table of kinds asks

pub sound_standing : (c : List Item) (who : Who) (s : AlterTable) (edit : Edit) → IsGood c → IsWritten (statements.AlterTable s) → Passes (First (change_refusals c who s)) → IsTableChange c who s edit → IsSound c edit
sound_standing c who s edit good written passed is = sound_changing c who (object_in who.schema s.table) s.action edit good (formed_action s written) passed is

pub changing_settled : (c : List Item) (who : Who) (table : Object) (action : AlterTableAction) → AreSettled (refusals_of c who (changing c table action))
changing_settled c who table (SetDefault column default) =
    steps_settled c who (changing_default c table column (Some default)) tt ((λ a b p q. p.1 ∙ sym q.1), ((λ a b p q. p.1 ∙ sym q.1), tt)) tt ((λ a b p q. p.1 ∙ sym q.1), tt)
changing_settled c who table (DropDefault column) =
    steps_settled c who (changing_default c table column None) tt ((λ a b p q. p.1 ∙ sym q.1), ((λ a b p q. p.1 ∙ sym q.1), tt)) tt ((λ a b p q. p.1 ∙ sym q.1), tt)
changing_settled c who table (DropColumn column how) =
    steps_settled c who (dropping_column c table column) tt ((λ a b p q. p.1 ∙ sym q.1), ((λ a b p q. p.1 ∙ sym q.1), tt)) tt ((λ a b p q. p.1 ∙ sym q.1), tt)
changing_settled c who table (DropConstraint constraint how) =
    steps_settled c who (dropping_constraint c table constraint) tt ((λ a b p q. p.1 ∙ sym q.1), ((λ a b p q. p.1 ∙ sym q.1), tt)) tt tt
changing_settled c who table (AddColumn definition) = steps_settled c who (no_change table.schema) tt tt tt tt
changing_settled c who table (AddConstraint constraint) = steps_settled c who (no_change table.schema) tt tt tt tt

pub standing_refusals_settled : (c : List Item) (who : Who) (s : AlterTable) → AreSettled (change_refusals c who s)
standing_refusals_settled c who s = changing_settled c who (object_in who.schema s.table) s.action

pub changes_settled : (c : List Item) (table : Object) (action : AlterTableAction) (a b : Edit) → (changing c table action).edit a → (changing c table action).edit b → a ≡ b
changes_settled c table (SetDefault column default) a b p q = edit_settled c (IsColumn (path_of table) column) Nothing (IsWithDefault c table column (Some default)) a b p q
changes_settled c table (DropDefault column) a b p q = edit_settled c (IsColumn (path_of table) column) Nothing (IsWithDefault c table column None) a b p q
changes_settled c table (DropColumn column how) a b p q = edit_settled c (GoesWithColumn table column) Nothing Nothing a b p q
changes_settled c table (DropConstraint constraint how) a b p q = edit_settled c (IsConstraintOf table constraint) Nothing Nothing a b p q
changes_settled c table (AddColumn definition) a b p q = absurd p
changes_settled c table (AddConstraint constraint) a b p q = absurd p

pub standing_edit_settled : (c : List Item) (who : Who) (s : AlterTable) (a b : Edit) → IsTableChange c who s a → IsTableChange c who s b → a ≡ b
standing_edit_settled c who s a b p q = changes_settled c (object_in who.schema s.table) s.action a b p q

pub changing_leaves_users : (c : List Item) (table : Object) (action : AlterTableAction) (edit : Edit) → (changing c table action).edit edit → LeavesUsers edit
changing_leaves_users c table (SetDefault column default) edit is = default_leaves_users c table column (Some default) edit is
changing_leaves_users c table (DropDefault column) edit is = default_leaves_users c table column None edit is
changing_leaves_users c table (DropColumn column how) edit is = column_drop_leaves_users c table column edit is
changing_leaves_users c table (DropConstraint constraint how) edit is = constraint_drop_leaves_users c table constraint edit is
changing_leaves_users c table (AddColumn definition) edit is = absurd is
changing_leaves_users c table (AddConstraint constraint) edit is = absurd is

pub standing_leaves_users : (c : List Item) (who : Who) (s : AlterTable) (edit : Edit) → IsTableChange c who s edit → LeavesUsers edit
standing_leaves_users c who s edit is = changing_leaves_users c (object_in who.schema s.table) s.action edit is
