-- A right by the system to change a plain view goes by one need.
use Rattle.std.proofs.Common.{◌≡◌, List, [], ◌∷◌, Option, Some, None, ap, sym, refl, subst, ◌∙◌}
use Rattle.std.specs.Prelude.{◌-◌, ℕ, slice_get}
use Rattle.std.specs.List.{Contains}
use Rattle.sql_names.specs.declared.object.Object.{Object}
use Rattle.sql_tree.specs.declared.rights.Action.{Action}
use Rattle.sql_tree.specs.declared.rights.Action.TheVariants as action
use Rattle.cat_items.specs.declared.need.Need.{Need}
use Rattle.cat_items.specs.declared.item.View.{View}
use Rattle.cat_items.specs.declared.item.Right.{Right}
use Rattle.cat_items.specs.declared.item.Item.{Item}
use Rattle.cat_items.specs.declared.item.Item.TheVariants as item
use Rattle.cat_items.specs.Reach.{Has}
use Rattle.cat_items.specs.Rights.{path_of}
use Rattle.cat_items.specs.Relevant.{IsBaseNeed, IsNeedOnColumn, IsBaseColumnNeed}
use Rattle.cat_items.specs.Shape.{NameSet, name_of, tables, columns}
use Rattle.cascade_laws.specs.Topics.{IsUpdateNeed, IsUpdateNeedOn}

on_base : (by : Action) (base : Option Object) (column : Option (List ℕ)) (n m : Need) → IsBaseNeed by base column n → IsBaseNeed by base column m → n ≡ m
on_base by None column n m is also = absurd is
on_base by (Some base) column n m is also = is ∙ sym also

on_base_column : (by : Action) (base : Option Object) (column : Option (List ℕ)) (n m : Need) → IsNeedOnColumn by base column n → IsNeedOnColumn by base column m → n ≡ m
on_base_column by base None n m is also = absurd is
on_base_column by base (Some name) n m is also = on_base by base (Some name) n m is also

module _ (c : List Item) (names : (x y : Item) (name : NameSet × List (List ℕ)) → Contains c x → Contains c y → name_of x ≡ Some name → name_of y ≡ Some name → x ≡ y) (n m : Need) where
  on_column : (v : View) (by : Action) (name : List ℕ) → Has c (IsBaseColumnNeed v by name n) → Has c (IsBaseColumnNeed v by name m) → n ≡ m
  on_column v by name h k = at_both h.0 k.0 h.1 k.1 h.2 k.2
    where
      at_both : (y z : Item) → Contains c y → Contains c z → IsBaseColumnNeed v by name n y → IsBaseColumnNeed v by name m z → n ≡ m
      at_both (item.Column a) (item.Column b) inside there is also =
          let of_a : name_of (item.Column a) ≡ Some (columns v.view, name ∷ []) = cc (is.0, is.1) in
          let of_b : name_of (item.Column b) ≡ Some (columns v.view, name ∷ []) = cc (also.0, also.1) in
          let one : item.Column a ≡ item.Column b = names (item.Column a) (item.Column b) (columns v.view, name ∷ []) inside there of_a of_b in
          let same : a ≡ b = cc one in
          on_base_column by v.base (slice_get v.base_columns (b.place - 1)) n m (subst (λ k. IsNeedOnColumn by v.base (slice_get v.base_columns (k.place - 1)) n) same is.2) also.2
      at_both (item.Column a) _ inside there is also = absurd also
      at_both _ z inside there is also = absurd is

  on_view : (v : View) (by : Action) (column : Option (List ℕ)) → IsUpdateNeed c v by column n → IsUpdateNeed c v by column m → n ≡ m
  on_view v action.Insert None is also = on_base action.Insert v.base None n m is also
  on_view v action.Update None is also = on_base action.Update v.base None n m is also
  on_view v action.Delete None is also = on_base action.Delete v.base None n m is also
  on_view v action.Insert (Some name) is also = on_column v action.Insert name is also
  on_view v action.Update (Some name) is also = on_column v action.Update name is also
  on_view v action.Delete (Some name) is also = absurd is
  on_view v action.Select column is also = absurd is
  on_view v action.References column is also = absurd is
  on_view v action.Usage column is also = absurd is
  on_view v action.Execute column is also = absurd is
  on_view v action.Admin column is also = absurd is

  pub one_need : (r : Right) → Has c (IsUpdateNeedOn c r n) → Has c (IsUpdateNeedOn c r m) → n ≡ m
  one_need r h k = at_both h.0 k.0 h.1 k.1 h.2 k.2
    where
      at_both : (y z : Item) → Contains c y → Contains c z → IsUpdateNeedOn c r n y → IsUpdateNeedOn c r m z → n ≡ m
      at_both (item.View v) (item.View w) inside there is also =
          let of_v : name_of (item.View v) ≡ Some (tables, path_of w.view) = ap (λ (p : List (List ℕ)). Some (tables, p)) (sym is.0 ∙ also.0) in
          let one : item.View v ≡ item.View w = names (item.View v) (item.View w) (tables, path_of w.view) inside there of_v refl in
          let same : v ≡ w = cc one in
          on_view w r.need.action r.need.column (subst (λ z. IsUpdateNeed c z r.need.action r.need.column n) same is.1) also.1
      at_both (item.View v) _ inside there is also = absurd also
      at_both _ z inside there is also = absurd is
