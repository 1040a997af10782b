-- DROP COLUMN and DROP CONSTRAINT leave a good catalogue good.
use Rattle.std.proofs.Common.{◌≡◌, inl, inr, ℕ, List, Option, sym, subst, ◌∙◌}
use Rattle.sql_names.specs.declared.object.Object.{Object}
use Rattle.cat_items.specs.declared.edit.Edit.{Edit}
use Rattle.cat_items.specs.declared.item.Right.{Right}
use Rattle.cat_items.specs.declared.item.Item.{Item}
use Rattle.cat_items.specs.declared.item.Item.TheVariants as item
use Rattle.cat_items.specs.Fit.{LacksPart}
use Rattle.cat_items.specs.Good.{IsGood}
use Rattle.cat_items.specs.Reach.{Has}
use Rattle.cat_items.specs.Rights.{path_of, HasColumn, IsBaseTable, IsColumn}
use Rattle.edit_laws.specs.Forms.{RightsLackParts, SaysOf, TakesWholeViews}
use Rattle.edit_laws.specs.Sound.{IsSound}
use Rattle.edit_laws.specs.Users.{LeavesUsers}
use Rattle.edit_laws.proofs.FormLaws.{same_object, sound_form}
use Rattle.table_changes.specs.DroppedColumns.{GoesWithColumn, IsRightOn, MakesColumnDrop}
use Rattle.table_changes.specs.DroppedConstraints.{IsConstraintOf, MakesConstraintDrop}
use Rattle.table_changes.proofs.Taking.{base_of, edited_is_not, form_of_taking, taken_is, taking_leaves_users}

module _ (c : List Item) (table : Object) (name : List ℕ) (edit : Edit) (good : IsGood c) (stands : ¬ (¬ (Has c (IsBaseTable table)))) (is : MakesColumnDrop c table name edit) where
  goes_by : (path : List (List ℕ)) (y : Item) → path ≡ path_of table → IsColumn path name y → GoesWithColumn table name y
  goes_by path (item.Column x) e h = (sym (same_object table x.table (sym e ∙ h.0)), h.1)
  goes_by path y e h = absurd h

  column_gone : RightsLackParts c edit
  column_gone edited of x h = by x ((is.target.members x).0 h).1
    where
      no_column : (r : Right) → IsRightOn table name r → Has edited (IsColumn r.need.on name) → ⊥
      no_column r on s = edited_is_not c (GoesWithColumn table name) edit is edited of s.0 s.1 (goes_by r.need.on s.0 on.1 s.2)

      lacks : (r : Right) → IsRightOn table name r → LacksPart edited r
      lacks r on = inr (inr (λ has. no_column r on (subst (λ (o : Option (List ℕ)). HasColumn edited r.need.on o) on.2 has)))

      by : (y : Item) → GoesWithColumn table name y → SaysOf (LacksPart edited) y
      by (item.Held r) on = lacks r on
      by (item.Grantable r) on = lacks r on
      by (item.Column y) on = tt
      by (item.Key k) on = tt
      by (item.Foreign f) on = tt
      by (item.Check k) on = tt
      by y on = absurd on

  column_views : TakesWholeViews c edit
  column_views x t =
      let old = taken_is c (GoesWithColumn table name) edit is (item.Column x) t in
      inl (base_of c good x old.0 (subst (λ (o : Object). ¬ (¬ (Has c (IsBaseTable o)))) (sym old.1.0) stands))

  pub sound_column_drop : IsSound c edit
  sound_column_drop = sound_form c edit good (form_of_taking c (GoesWithColumn table name) edit is column_gone column_views)

pub column_drop_leaves_users : (c : List Item) (table : Object) (name : List ℕ) (edit : Edit) → MakesColumnDrop c table name edit → LeavesUsers edit
column_drop_leaves_users c table name edit is = taking_leaves_users c (GoesWithColumn table name) edit is (λ user h. h)

module _ (c : List Item) (table : Object) (name : List ℕ) (edit : Edit) (good : IsGood c) (is : MakesConstraintDrop c table name edit) where
  constraint_gone : RightsLackParts c edit
  constraint_gone edited of x h = by x ((is.target.members x).0 h).1
    where
      by : (y : Item) → IsConstraintOf table name y → SaysOf (LacksPart edited) y
      by (item.Key k) on = tt
      by (item.Foreign f) on = tt
      by (item.Check k) on = tt
      by y on = absurd on

  constraint_views : TakesWholeViews c edit
  constraint_views x t = absurd (taken_is c (IsConstraintOf table name) edit is (item.Column x) t).1

  pub sound_constraint_drop : IsSound c edit
  sound_constraint_drop = sound_form c edit good (form_of_taking c (IsConstraintOf table name) edit is constraint_gone constraint_views)

pub constraint_drop_leaves_users : (c : List Item) (table : Object) (name : List ℕ) (edit : Edit) → MakesConstraintDrop c table name edit → LeavesUsers edit
constraint_drop_leaves_users c table name edit is = taking_leaves_users c (IsConstraintOf table name) edit is (λ user h. h)
