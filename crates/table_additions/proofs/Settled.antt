-- ALTER TABLE, by its definition: it is sound, it has one refusal at most and one edit, and it leaves all users.
use Rattle.std.proofs.Common.{◌≡◌, List, [], ◌∷◌, Ok, Err, map, refl, sym, subst, ◌∙◌}
use Rattle.std.specs.Prelude.{IfOk}
use Rattle.std.specs.List.{Contains}
use Rattle.std.specs.declared.result.Result.{Result}
use Rattle.sql_names.specs.declared.object.Object.{Object}
use Rattle.sql_tree.specs.declared.statement.AlterTable.{AlterTable}
use Rattle.sql_tree.specs.declared.statement.AlterTableAction.{AlterTableAction}
use Rattle.sql_tree.specs.declared.statement.AlterTableAction.TheVariants.{AddColumn, AddConstraint, SetDefault, DropDefault, DropColumn, DropConstraint}
use Rattle.sql_tree.specs.declared.statement.Statement.TheVariants as statements
use Rattle.sql_tree.specs.declared.table.ColumnDefinition.{ColumnDefinition}
use Rattle.sql_tree.specs.declared.table.TableConstraint.{TableConstraint}
use Rattle.cat_items.specs.declared.edit.Edit.{Edit}
use Rattle.cat_items.specs.declared.edit.EditError.{EditError}
use Rattle.cat_items.specs.declared.edit.Who.{Who}
use Rattle.cat_items.specs.declared.item.Item.{Item}
use Rattle.cat_items.specs.Good.{IsGood}
use Rattle.edit_rules.specs.First.{First, IsTested, Passes, tests_of}
use Rattle.edit_rules.specs.Names.{object_in}
use Rattle.edit_rules.proofs.FirstLaws.{AreSettled, IsSettled, first_settled, settled_append, settled_each, settled_map}
use Rattle.edit_laws.specs.Sound.{IsSound}
use Rattle.edit_laws.specs.Users.{LeavesUsers}
use Rattle.statement_forms.specs.Written.{IsWritten}
use Rattle.statement_steps.specs.Steps.{Nothing, refusals_of}
use Rattle.statement_steps.proofs.Settled.{edit_settled, one_told, steps_settled}
use Rattle.table_parts.specs.declared.parts.Part.{Part}
use Rattle.table_parts.specs.declared.parts.Part.TheVariants as parts
use Rattle.table_parts.specs.Parts.{column_parts}
use Rattle.table_names.specs.declared.named.NamedConstraint.{NamedConstraint}
use Rattle.table_names.specs.Given.{given_names}
use Rattle.table_names.specs.Named.{for_constraints}
use Rattle.table_names.specs.Refusals.{exists_in}
use Rattle.table_names.proofs.NamesSettled.{constraints_settled, repeated_settled}
use Rattle.table_changes.specs.Changes.{IsOfStanding, changing}
use Rattle.table_changes.proofs.Settled.{changes_settled, changing_leaves_users, changing_settled, sound_changing}
use Rattle.table_changes.proofs.WrittenDefaults.{IsFormedAction, formed_action}
use Rattle.table_elements.proofs.Settled.{names_settled}
use Rattle.table_constraints.proofs.Settled.{keys_settled, types_settled}
use Rattle.table_additions.specs.Additions.{AddsParts, IsAdded, IsMadeNotNull, added_work, addition_rules, column_taken, steps_of_parts}
use Rattle.table_additions.specs.Alterations.{IsTableAlteration, alter_table_refusals, alteration_steps}
use Rattle.table_additions.proofs.SoundAdditions.{addition_leaves_users, sound_addition}
use Rattle.table_additions.proofs.TestedAdditions.{formed_addition}
use Rattle.table_additions.proofs.WrittenAdditions.{IsWrittenAction, IsWrittenPart, written_action, written_part}

-- ---- actions on what stands

pub is_standing : (action : AlterTableAction) → ((d : ColumnDefinition) → action ≡ AddColumn d → ⊥) → ((k : TableConstraint) → action ≡ AddConstraint k → ⊥) → IsOfStanding action
is_standing (AddColumn d) column constraint = column d refl
is_standing (AddConstraint k) column constraint = constraint k refl
is_standing action column constraint = tt

pub as_standing : (c : List Item) (who : Who) (table : Object) (action : AlterTableAction) (result : Result Edit EditError) → IsOfStanding action
    → IsTested (refusals_of c who (changing c table action)) (changing c table action).edit result → IsTested (refusals_of c who (alteration_steps c who table action)) (alteration_steps c who table action).edit result
as_standing c who table (AddColumn d) result is h = absurd is
as_standing c who table (AddConstraint k) result is h = absurd is
as_standing c who table (SetDefault column default) result is h = h
as_standing c who table (DropDefault column) result is h = h
as_standing c who table (DropColumn column how) result is h = h
as_standing c who table (DropConstraint constraint how) result is h = h

-- ---- ADD

module _ (c : List Item) (who : Who) (table : Object) (all : List Part) where
  added_soundly : (edit : Edit) → IsGood c → ((part : Part) → Contains all part → IsWrittenPart part) → Passes (First (refusals_of c who (steps_of_parts c who table all))) → (steps_of_parts c who table all).edit edit → IsSound c edit
  added_soundly edit good written passed is = sound_addition c who table all is.0 edit good (formed_addition c who table all passed is.0 is.1 written edit good is.2) is.2

  taken_settled : (part : Part) → AreSettled (column_taken c table part)
  taken_settled (parts.Column d) = (one_told _ _, tt)
  taken_settled (parts.Constraint k) = tt

  rules_settled : (named : List NamedConstraint) → AreSettled (addition_rules c who table all named)
  rules_settled named = (types_settled c who (added_work c who table all) all named, (keys_settled c who (added_work c who table all) named, (one_told _ _, ((λ a b p q. p.1 ∙ sym q.1), tt))))

  for_settled : IsSettled (for_constraints c table all (λ named. First (addition_rules c who table all named)))
  for_settled a b p q =
      let same : p.0 ≡ q.0 = constraints_settled c table all p.0 q.0 p.1 q.1 in
      first_settled (addition_rules c who table all q.0) (rules_settled q.0) a b (subst (λ (named : List NamedConstraint). First (addition_rules c who table all named) a) same p.2) q.2

  addition_refusals : AreSettled (refusals_of c who (steps_of_parts c who table all))
  addition_refusals =
      steps_settled c who (steps_of_parts c who table all) (repeated_settled table all, tt) ((λ a b p q. p.1 ∙ sym q.1), names_settled c who (added_work c who table all) all)
      (settled_append (tests_of (column_taken c table) all) (map (exists_in c table.schema) (given_names all)) (settled_each (column_taken c table) taken_settled all) (settled_map (exists_in c table.schema) (λ n a b p q. p.1 ∙ sym q.1) (given_names all)))
      (for_settled, tt)

  addition_settled : (a b : Edit) → (steps_of_parts c who table all).edit a → (steps_of_parts c who table all).edit b → a ≡ b
  addition_settled a b p q =
      let same : p.0 ≡ q.0 = constraints_settled c table all p.0 q.0 p.1 q.1 in
      edit_settled c (IsMadeNotNull table all) Nothing (IsAdded c who table all q.0) a b (subst (λ (named : List NamedConstraint). AddsParts c who table all named a) same p.2) q.2

  addition_leaves : (edit : Edit) → (steps_of_parts c who table all).edit edit → LeavesUsers edit
  addition_leaves edit is = addition_leaves_users c who table all is.0 edit is.2

-- ---- each action

module _ (c : List Item) (who : Who) (table : Object) where
  sound_action : (action : AlterTableAction) (edit : Edit) → IsGood c → IsWrittenAction action → IsFormedAction action → Passes (First (refusals_of c who (alteration_steps c who table action))) → (alteration_steps c who table action).edit edit → IsSound c edit
  sound_action (AddColumn d) edit good written formed passed is = added_soundly c who table (column_parts d) edit good (written_part (column_parts d) written) passed is
  sound_action (AddConstraint k) edit good written formed passed is = added_soundly c who table (parts.Constraint k ∷ []) edit good (written_part (parts.Constraint k ∷ []) written) passed is
  sound_action (SetDefault column default) edit good written formed passed is = sound_changing c who table (SetDefault column default) edit good formed passed is
  sound_action (DropDefault column) edit good written formed passed is = sound_changing c who table (DropDefault column) edit good formed passed is
  sound_action (DropColumn column how) edit good written formed passed is = sound_changing c who table (DropColumn column how) edit good formed passed is
  sound_action (DropConstraint constraint how) edit good written formed passed is = sound_changing c who table (DropConstraint constraint how) edit good formed passed is

  action_refusals : (action : AlterTableAction) → AreSettled (refusals_of c who (alteration_steps c who table action))
  action_refusals (AddColumn d) = addition_refusals c who table (column_parts d)
  action_refusals (AddConstraint k) = addition_refusals c who table (parts.Constraint k ∷ [])
  action_refusals (SetDefault column default) = changing_settled c who table (SetDefault column default)
  action_refusals (DropDefault column) = changing_settled c who table (DropDefault column)
  action_refusals (DropColumn column how) = changing_settled c who table (DropColumn column how)
  action_refusals (DropConstraint constraint how) = changing_settled c who table (DropConstraint constraint how)

  action_settled : (action : AlterTableAction) (a b : Edit) → (alteration_steps c who table action).edit a → (alteration_steps c who table action).edit b → a ≡ b
  action_settled (AddColumn d) a b p q = addition_settled c who table (column_parts d) a b p q
  action_settled (AddConstraint k) a b p q = addition_settled c who table (parts.Constraint k ∷ []) a b p q
  action_settled (SetDefault column default) a b p q = changes_settled c table (SetDefault column default) a b p q
  action_settled (DropDefault column) a b p q = changes_settled c table (DropDefault column) a b p q
  action_settled (DropColumn column how) a b p q = changes_settled c table (DropColumn column how) a b p q
  action_settled (DropConstraint constraint how) a b p q = changes_settled c table (DropConstraint constraint how) a b p q

  action_leaves_users : (action : AlterTableAction) (edit : Edit) → (alteration_steps c who table action).edit edit → LeavesUsers edit
  action_leaves_users (AddColumn d) edit is = addition_leaves c who table (column_parts d) edit is
  action_leaves_users (AddConstraint k) edit is = addition_leaves c who table (parts.Constraint k ∷ []) edit is
  action_leaves_users (SetDefault column default) edit is = changing_leaves_users c table (SetDefault column default) edit is
  action_leaves_users (DropDefault column) edit is = changing_leaves_users c table (DropDefault column) edit is
  action_leaves_users (DropColumn column how) edit is = changing_leaves_users c table (DropColumn column how) edit is
  action_leaves_users (DropConstraint constraint how) edit is = changing_leaves_users c table (DropConstraint constraint how) edit is

-- ---- what the table of kinds asks

module _ (c : List Item) (who : Who) (s : AlterTable) where
  pub alter_table_refusals_settled : AreSettled (alter_table_refusals c who s)
  alter_table_refusals_settled = action_refusals c who (object_in who.schema s.table) s.action

  pub alteration_settled : (a b : Edit) → IsTableAlteration c who s a → IsTableAlteration c who s b → a ≡ b
  alteration_settled a b p q = action_settled c who (object_in who.schema s.table) s.action a b p q

  pub sound_alteration : (edit : Edit) → IsGood c → IsWritten (statements.AlterTable s) → Passes (First (alter_table_refusals c who s)) → IsTableAlteration c who s edit → IsSound c edit
  sound_alteration edit good written passed is = sound_action c who (object_in who.schema s.table) s.action edit good (written_action s written) (formed_action s written) passed is

  pub alteration_leaves_users : (edit : Edit) → IsTableAlteration c who s edit → LeavesUsers edit
  alteration_leaves_users edit is = action_leaves_users c who (object_in who.schema s.table) s.action edit is

  pub altered_soundly : (result : Result Edit EditError) → IsGood c → IsWritten (statements.AlterTable s) → IsTested (alter_table_refusals c who s) (IsTableAlteration c who s) result → IfOk result (IsSound c)
  altered_soundly (Ok edit) good written tested = sound_alteration edit good written tested.0 tested.1
  altered_soundly (Err e) good written tested = tt
