-- Columns that are put back are proper.
use Rattle.std.proofs.Common.{◌≡◌, ◌⊎◌, inl, inr, ℕ, List, [], ◌∷◌, Option, Some, None, refl, ap, sym, subst, ◌∙◌}
use Rattle.std.specs.List.{Contains}
use Rattle.sql_names.specs.declared.object.Object.{Object}
use Rattle.sql_names.specs.declared.sort.SqlType.{SqlType}
use Rattle.cat_items.specs.declared.edit.Edit.{Edit}
use Rattle.cat_items.specs.declared.item.Column.{Column}
use Rattle.cat_items.specs.declared.item.View.{View}
use Rattle.cat_items.specs.declared.item.Item.{Item}
use Rattle.cat_items.specs.declared.item.Item.TheVariants as item
use Rattle.cat_items.specs.Good.{IsGood}
use Rattle.cat_items.specs.Pieces.{IsType, AreResolved, default_pieces}
use Rattle.cat_items.specs.Reach.{Has}
use Rattle.cat_items.specs.Rights.{path_of, IsBaseTable, IsDomain, IsTable}
use Rattle.cat_items.specs.Shape.{NameSet, name_of, columns}
use Rattle.cat_items.specs.Supported.{RestsOnDomain}
use Rattle.edit_laws.specs.Kinds.{IsKept}
use Rattle.edit_laws.proofs.GoodCatalogues.{good_supports, column_table_stands}
use Rattle.edit_laws.specs.Forms.{IsTaken, HasOwnName, HasOwnPlace, NamesDiffer}
use Rattle.edit_laws.specs.Proper.{IsLeft, Leaves, FitsDomain, IsDomainOfType, IsProperItem, IsProperBeside}
use Rattle.edit_laws.specs.PutBack.{IsPutBack, IsTableOrDomain, LeavesTablesAndDomains}
use Rattle.edit_laws.proofs.FormLaws.{own_place, same_object}

module _ (c : List Item) (edit : Edit) (good : IsGood c) where
  -- a table or a domain that stands is left
  left_by : LeavesTablesAndDomains edit → (y : Item) → Contains c y → IsTableOrDomain y → IsLeft c edit y
  left_by leaves y h is = inl (h, (λ t. leaves y (inl t) is), (λ t. leaves y (inr t) is))

  base_by : LeavesTablesAndDomains edit → (x : Column) (d : Object) → Contains c (item.Column x) → x.domain ≡ Some d → (y : Item) → Contains c y → IsTable (path_of x.table) y → Leaves c edit (IsBaseTable x.table)
  base_by leaves x d h e (item.Table t) k is = (item.Table t, left_by leaves (item.Table t) k tt, sym (same_object x.table t is))
  base_by leaves x d h e (item.View v) k is = absurd (let none : None ≡ Some d = sym (good.shape.view_domains v x k h (same_object x.table v.view is)) ∙ e in cc)
  base_by leaves x d h e y k is = absurd is

  domain_by : LeavesTablesAndDomains edit → (x : Column) (d : Object) → Contains c (item.Column x) → x.domain ≡ Some d → (y : Item) → Contains c y → IsDomain (path_of d) y → Leaves c edit (IsDomainOfType d x.sort)
  domain_by leaves x d h e (item.Domain m) k is =
      let same : d ≡ m.domain = same_object d m.domain is in
      (item.Domain m, left_by leaves (item.Domain m) k tt, (sym same, sym (good.shape.domains x m h k (e ∙ ap (λ (o : Object). Some o) same))))
  domain_by leaves x d h e y k is = absurd is

  -- a column that stands has its domain's type, and its domain is left
  old_fits : LeavesTablesAndDomains edit → (x : Column) → Contains c (item.Column x) → (on : Option Object) → x.domain ≡ on → FitsDomain c edit x on
  old_fits leaves x h None e = tt
  old_fits leaves x h (Some d) e =
      let t = column_table_stands c good x h in
      let rests : RestsOnDomain c x.table.schema (Some d) = subst (RestsOnDomain c x.table.schema) e (good_supports c good (item.Column x) h).2 in
      let m = rests.0 in
      (base_by leaves x d h e t.0 t.1 t.2, domain_by leaves x d h e m.0 m.1 m.2)

  moved : (old x : Column) (on : Option Object) → x.table ≡ old.table → x.sort ≡ old.sort → FitsDomain c edit old on → FitsDomain c edit x on
  moved old x None t s fits = tt
  moved old x (Some d) t s fits = (subst (λ (o : Object). Leaves c edit (IsBaseTable o)) (sym t) fits.0, subst (λ (o : SqlType). Leaves c edit (IsDomainOfType d o)) (sym s) fits.1)

  fits_none : (x : Column) (on : Option Object) → on ≡ None → FitsDomain c edit x on
  fits_none x None e = tt
  fits_none x (Some d) e = absurd (let odd : Some d ≡ None = e in cc)

  put_back_fits : (x : Column) → IsPutBack c edit x → FitsDomain c edit x x.domain
  put_back_fits x b = by b.domain
    where
      by : (x.domain ≡ None) ⊎ ((x.domain ≡ b.old.domain) × LeavesTablesAndDomains edit) → FitsDomain c edit x x.domain
      by (inl none) = fits_none x x.domain none
      by (inr same) = moved b.old x x.domain b.table b.sort (old_fits same.1 b.old b.stood x.domain (sym same.0))

  put_back_place : (x : Column) → IsPutBack c edit x → HasOwnPlace c edit x
  put_back_place x b = inr (b.old, b.stood, b.taken, sym b.table, sym b.place)

  -- it has the name of the one that is taken
  pub put_back_name : (x : Column) → IsPutBack c edit x → HasOwnName c edit (item.Column x)
  put_back_name x b = inr (item.Column b.old, b.stood, b.taken, names)
    where
      names : name_of (item.Column b.old) ≡ name_of (item.Column x)
      names = λ i. Some (columns (sym b.table i), sym b.name i ∷ [])

  pub put_back_item : (x : Column) → IsPutBack c edit x → IsProperItem (item.Column x)
  put_back_item x b = record {
    allowed = tt;
    derived = tt;
    lists = tt;
    trees = (subst IsType (sym b.sort) (good.shape.trees (item.Column b.old) b.stood).0, b.default);
  }

  pub put_back_beside : (x : Column) → IsPutBack c edit x → IsProperBeside c edit (item.Column x)
  put_back_beside x b = (put_back_fits x b, own_place c edit good x (put_back_place x b))
