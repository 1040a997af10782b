-- What goes soundly, where it is all that an edit does.
use Rattle.std.proofs.Common.{◌⊎◌, inl, inr, List, []}
use Rattle.std.specs.List.{Contains}
use Rattle.finite_chains.specs.Chains.{IsWithin}
use Rattle.finite_chains.proofs.Members.{Contains-nil}
use Rattle.sql_names.specs.declared.object.Object.{Object}
use Rattle.cat_items.specs.declared.item.Item.{Item}
use Rattle.cat_items.specs.Catalogues.{IsInOrder}
use Rattle.cat_items.specs.Edits.{IsEdited}
use Rattle.cat_items.specs.Fit.{IsSystemRightGone}
use Rattle.cat_items.specs.Good.{IsGood}
use Rattle.cat_items.specs.Shape.{IsColumnOf}
use Rattle.edit_laws.specs.Kinds.{taking}
use Rattle.edit_laws.specs.Sound.{IsSound}
use Rattle.edit_laws.proofs.Fits.{edited_of_taking, fit_of_taking}
use Rattle.edit_laws.proofs.GoodCatalogues.{good_order}
use Rattle.edit_laws.proofs.Shapes.{shape_of_taking, keeps_without_columns}

module _ (c target : List Item) (good : IsGood c) (order : IsInOrder target) (within : IsWithin target c) where
  -- items other than columns can be taken, where rights by the system among them lack a part
  pub sound_of_taking : ((x : Item) → Contains target x → (t : Object) → ¬ (IsColumnOf t x)) → ((edited : List Item) → IsEdited c (taking target) edited → (x : Item) → Contains target x → IsSystemRightGone edited x)
      → IsSound c (taking target)
  sound_of_taking none gone =
      let all = edited_of_taking c target (good_order c good) within in
      record {
        edited = all.0;
        fit = fit_of_taking c target all.0 order within all.1 (gone all.0 all.1);
        shape = shape_of_taking c target all.0 good.shape all.1 (keeps_without_columns c (taking target) no_columns);
      }
    where
      no_columns : (x : Item) → Contains target x ⊎ Contains [] x → (t : Object) → ¬ (IsColumnOf t x)
      no_columns x (inl h) t = none x h t
      no_columns x (inr h) t = absurd (Contains-nil x h)
