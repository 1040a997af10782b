-- Edits that only take, and base tables whose columns are taken.
use Rattle.std.proofs.Common.{◌≡◌, inl, inr, ℕ, List, Some, refl, ap, sym, ◌∙◌}
use Rattle.std.specs.List.{Contains}
use Rattle.sql_names.specs.declared.object.Object.{Object}
use Rattle.cat_items.specs.declared.edit.Edit.{Edit}
use Rattle.cat_items.specs.declared.item.Column.{Column}
use Rattle.cat_items.specs.declared.item.View.{View}
use Rattle.cat_items.specs.declared.item.Item.{Item}
use Rattle.cat_items.specs.declared.item.Item.TheVariants as item
use Rattle.cat_items.specs.Edits.{IsEdited}
use Rattle.cat_items.specs.Good.{IsGood}
use Rattle.cat_items.specs.Reach.{Has}
use Rattle.cat_items.specs.Rights.{path_of, IsBaseTable, IsTable}
use Rattle.cat_items.specs.Shape.{tables}
use Rattle.edit_laws.specs.Forms.{IsTaken, HasForm, RightsLackParts, TakesWholeViews}
use Rattle.edit_laws.specs.Users.{LeavesUsers}
use Rattle.edit_laws.proofs.FormLaws.{same_object}
use Rattle.edit_laws.proofs.GoodCatalogues.{column_table_stands}
use Rattle.statement_steps.specs.Steps.{MakesEdit, Nothing}

module _ (c : List Item) (P : Item → Type 0) (edit : Edit) (is : MakesEdit c P Nothing Nothing edit) where
  none_changed : (x : Item) → Contains edit.changed x → ⊥
  none_changed x h = ((is.changed.members x).0 h).1

  none_added : (x : Item) → Contains edit.added x → ⊥
  none_added x h = (is.added.members x).0 h

  -- what is left isn't so
  pub edited_is_not : (edited : List Item) → IsEdited c edit edited → (x : Item) → Contains edited x → P x → ⊥
  edited_is_not edited of x h so = elim ((of.members x).0 h) [ inl k ↦ k.1 ((is.target.members x).1 (k.0, so)) | inr k ↦ none_added x k ]

  pub taken_is : (x : Item) → IsTaken edit x → Contains c x × P x
  taken_is x (inl h) = (is.target.members x).0 h
  taken_is x (inr h) = absurd (none_changed x h)

  pub form_of_taking : RightsLackParts c edit → TakesWholeViews c edit → HasForm c edit
  form_of_taking gone views = record {
    target_order = is.target.order;
    target = λ x h. ((is.target.members x).0 h).0;
    changed_order = is.changed.order;
    changed = λ x h. absurd (none_changed x h);
    added_order = is.added.order;
    apart = λ x h. absurd (none_changed x h);
    gone = gone;
    differ = λ x y name h k nx ny. absurd (none_added x h);
    own_names = λ x h. absurd (none_added x h);
    items = λ x h. absurd (none_added x h);
    beside = λ x h. absurd (none_added x h);
    views = views;
  }

  pub taking_leaves_users : ((name : List ℕ) → ¬ (P (item.User name))) → LeavesUsers edit
  taking_leaves_users none name = (λ h. none name ((is.target.members (item.User name)).0 h).1, none_changed (item.User name), none_added (item.User name))

module _ (c : List Item) (good : IsGood c) where
  -- where it isn't so that no base table has the name of a column's table, that table is a base table
  pub base_of : (x : Column) → Contains c (item.Column x) → ¬ (¬ (Has c (IsBaseTable x.table))) → Has c (IsBaseTable x.table)
  base_of x h stands = by (column_table_stands c good x h)
    where
      no_view : (v : View) → Contains c (item.View v) → v.view ≡ x.table → (y : Item) → Contains c y → IsBaseTable x.table y → ⊥
      no_view v k e (item.Table t) m is =
          let one : item.View v ≡ item.Table t = good.shape.names (item.View v) (item.Table t) (tables, path_of v.view) k m refl (ap (λ (o : Object). Some (tables, path_of o)) (is ∙ sym e)) in
          cc
      no_view v k e y m is = is

      by_one : (y : Item) → Contains c y → IsTable (path_of x.table) y → Has c (IsBaseTable x.table)
      by_one (item.Table t) k s = (item.Table t, k, sym (same_object x.table t s))
      by_one (item.View v) k s = absurd (stands (λ m. no_view v k (sym (same_object x.table v.view s)) m.0 m.1 m.2))
      by_one y k s = absurd s

      by : Has c (IsTable (path_of x.table)) → Has c (IsBaseTable x.table)
      by s = by_one s.0 s.1 s.2
