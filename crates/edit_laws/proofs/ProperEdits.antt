-- A proper edit fits a good catalogue, and what it leaves has a proper shape.
use Rattle.std.proofs.Common.{◌≡◌, ◌↔◌, ◌⊎◌, inl, inr, ℕ, List, [], ◌∷◌, Option, Some, None, true, refl, ap, sym, subst, ◌∙◌}
use Rattle.std.specs.List.{Contains}
use Rattle.std.specs.declared.cmp.Ordering.TheVariants.{Equal}
use Rattle.sql_names.specs.declared.object.Object.{Object}
use Rattle.cat_items.specs.declared.edit.Edit.{Edit}
use Rattle.cat_items.specs.declared.item.Column.{Column}
use Rattle.cat_items.specs.declared.item.Domain.{Domain}
use Rattle.cat_items.specs.declared.item.Foreign.{Foreign}
use Rattle.cat_items.specs.declared.item.Key.{Key}
use Rattle.cat_items.specs.declared.item.RoleGrant.{RoleGrant}
use Rattle.cat_items.specs.declared.item.Routine.{Routine}
use Rattle.cat_items.specs.declared.item.Schema.{Schema}
use Rattle.cat_items.specs.declared.item.View.{View}
use Rattle.cat_items.specs.declared.item.Item.{Item}
use Rattle.cat_items.specs.declared.item.Item.TheVariants as item
use Rattle.cat_items.specs.Catalogues.{HasKeyAt}
use Rattle.cat_items.specs.Edits.{IsEdited}
use Rattle.cat_items.specs.Fit.{IsFit, HasNewKey}
use Rattle.cat_items.specs.Good.{IsGood}
use Rattle.cat_items.specs.Order.{item_cmp, kind_of}
use Rattle.cat_items.specs.Reach.{Has, Leads}
use Rattle.cat_items.specs.Rights.{path_of, IsBaseTable, IsDomain, IsSchema, IsTable, IsRoutine}
use Rattle.cat_items.specs.Shape.{HasShape, NameSet, name_of, tables, domains, constraints, HasAllowedName, HasDerivedFields, HasProperLists, IsWellFormed, IsColumnOf}
use Rattle.cat_items.specs.Supported.{IsKey, RestsOnDomain}
use Rattle.edit_laws.specs.Additions.{AddsProperly, IsEitherAdded}
use Rattle.edit_laws.specs.Kinds.{HaveOwnKeys, IsKept}
use Rattle.edit_laws.proofs.EditedLists.{edited_list, one_by_key}
use Rattle.edit_laws.proofs.GoodCatalogues.{good_order, good_supports, column_table_stands, foreign_key_stands}
use Rattle.edit_laws.proofs.Shapes.{shape_of_edited, view_columns_kept, no_cycle_of_old, old_role_auths}
use Rattle.edit_laws.specs.Proper.{IsLeft, Leaves, IsProperItem, IsDomainOfType, IsKeyFor, FitsDomain, IsProperBeside, IsProperEdit}
use Rattle.edit_laws.specs.Sound.{IsSound}
use Rattle.edit_rules.proofs.ItemKeys.{only_granted}
use Rattle.edit_laws.proofs.KeysAndNames.{at_key, column_by_key, kind_and_key, name_by_key, routine_with_key, schema_with_key, turned, view_with_key}

module _ (c : List Item) (edit : Edit) (good : IsGood c) (proper : IsProperEdit c edit) where
  -- what is left has one item of a name
  one_by_name : (x y : Item) (name : NameSet × List (List ℕ)) → IsLeft c edit x → IsLeft c edit y → name_of x ≡ Some name → name_of y ≡ Some name → x ≡ y
  one_by_name x y name (inl p) (inl q) nx ny = good.shape.names x y name p.0 q.0 nx ny
  one_by_name x y name (inl p) (inr q) nx ny = sym (proper.names y x name q (inl p) ny nx)
  one_by_name x y name (inr p) q nx ny = proper.names x y name p q nx ny

  -- ---- keys

  -- an added item whose name is its key
  own_by_name : (x y : Item) (name : NameSet × List (List ℕ)) → Contains edit.added x → IsKept c edit y → name_of x ≡ Some name → name_of x ≡ name_of y → x ≡ y
  own_by_name x y name h k nx e = proper.names x y name h (inl k) nx (sym e ∙ nx)

  -- an added schema has a key of its own
  own_schema : (s : Schema) (y : Item) → Contains edit.added (item.Schema s) → Contains c y → item_cmp (item.Schema s) y ≡ Equal → ⊥
  own_schema s y h k e = proper.beside (item.Schema s) h (y, k, schema_with_key s y e)

  own_column : (x : Column) (y : Item) → Contains edit.added (item.Column x) → IsKept c edit y → item_cmp (item.Column x) y ≡ Equal → ⊥
  own_column x y h k e =
      let same = kind_and_key (item.Column x) y e in
      let z = column_by_key x y same.0 same.1 in
      (proper.beside (item.Column x) h).1 z.0 (subst (IsKept c edit) z.1 k) z.2 z.3

  own_keys : HaveOwnKeys c edit
  own_keys (item.User n) y h k e = own_by_name (item.User n) y _ h k refl (name_by_key (item.User n) y e tt)
  own_keys (item.Role n) y h k e = own_by_name (item.Role n) y _ h k refl (name_by_key (item.Role n) y e tt)
  own_keys (item.Schema s) y h k e = absurd (own_schema s y h k.0 e)
  own_keys (item.Table t) y h k e = own_by_name (item.Table t) y _ h k refl (name_by_key (item.Table t) y e tt)
  own_keys (item.View v) y h k e = own_by_name (item.View v) y _ h k refl (name_by_key (item.View v) y e tt)
  own_keys (item.Column x) y h k e = absurd (own_column x y h k e)
  own_keys (item.Domain d) y h k e = own_by_name (item.Domain d) y _ h k refl (name_by_key (item.Domain d) y e tt)
  own_keys (item.DomainCheck d) y h k e = own_by_name (item.DomainCheck d) y _ h k refl (name_by_key (item.DomainCheck d) y e tt)
  own_keys (item.Key x) y h k e = own_by_name (item.Key x) y _ h k refl (name_by_key (item.Key x) y e tt)
  own_keys (item.Foreign f) y h k e = own_by_name (item.Foreign f) y _ h k refl (name_by_key (item.Foreign f) y e tt)
  own_keys (item.Check x) y h k e = own_by_name (item.Check x) y _ h k refl (name_by_key (item.Check x) y e tt)
  own_keys (item.Assertion a) y h k e = own_by_name (item.Assertion a) y _ h k refl (name_by_key (item.Assertion a) y e tt)
  own_keys (item.Routine r) y h k e = own_by_name (item.Routine r) y _ h k refl (name_by_key (item.Routine r) y e tt)
  own_keys (item.RoleAuth g) y h k e = absurd (proper.beside (item.RoleAuth g) h)
  own_keys (item.RoleAdmin g) y h k e = only_granted (item.RoleAdmin g) y tt e
  own_keys (item.Held r) y h k e = only_granted (item.Held r) y tt e
  own_keys (item.Grantable r) y h k e = only_granted (item.Grantable r) y tt e

  whole : (edited : List Item) × IsEdited c edit edited
  whole = edited_list c edit (good_order c good) proper.added_order proper.target proper.changed own_keys

  -- ---- the edit fits

  new_schema : (s : Schema) → Contains edit.added (item.Schema s) → (k : ℕ) → HasKeyAt c k (item.Schema s) → ⊥
  new_schema s h k at = let y = at_key c k (item.Schema s) at in own_schema s y.0 h y.1 (turned y.0 (item.Schema s) y.2)

  new_view : (v : View) → Contains edit.added (item.View v) → (k : ℕ) → HasKeyAt c k (item.View v) → ⊥
  new_view v h k at = let y = at_key c k (item.View v) at in (proper.beside (item.View v) h).0 (y.0, y.1, view_with_key v y.0 (turned y.0 (item.View v) y.2))

  new_routine : (r : Routine) → Contains edit.added (item.Routine r) → (k : ℕ) → HasKeyAt c k (item.Routine r) → ⊥
  new_routine r h k at = let y = at_key c k (item.Routine r) at in proper.beside (item.Routine r) h (y.0, y.1, routine_with_key r y.0 (turned y.0 (item.Routine r) y.2))

  new_key : (x : Item) → Contains edit.added x → HasNewKey c x
  new_key (item.Schema s) h = new_schema s h
  new_key (item.View v) h = new_view v h
  new_key (item.Routine r) h = new_routine r h
  new_key (item.User n) h = tt
  new_key (item.Role n) h = tt
  new_key (item.Table t) h = tt
  new_key (item.Column x) h = tt
  new_key (item.Domain d) h = tt
  new_key (item.DomainCheck d) h = tt
  new_key (item.Key x) h = tt
  new_key (item.Foreign f) h = tt
  new_key (item.Check x) h = tt
  new_key (item.Assertion a) h = tt
  new_key (item.RoleAuth g) h = tt
  new_key (item.RoleAdmin g) h = tt
  new_key (item.Held r) h = tt
  new_key (item.Grantable r) h = tt

  fit : IsFit c edit whole.0
  fit = record {
    target_order = proper.target_order;
    target = proper.target;
    changed_order = proper.changed_order;
    changed = proper.changed;
    added_order = proper.added_order;
    apart = proper.apart;
    gone = proper.gone whole.0 whole.1;
    is_edited = whole.1;
    new_keys = new_key;
    derived = λ x h. (proper.items x h).derived;
  }

  -- ---- what it leaves has a proper shape

  left : (x : Item) → Contains whole.0 x → IsLeft c edit x
  left x h = (whole.1.members x).0 h

  stays : (x : Item) → IsLeft c edit x → Contains whole.0 x
  stays x h = (whole.1.members x).1 h

  has_left : (P : Item → Type 0) → Leaves c edit P → Has whole.0 P
  has_left P h = (h.0, stays h.0 h.1, h.2)

  -- the key that an added foreign key is bound to is the only one of its name
  bound_by : (f : Foreign) (k : Key) (y : Item) → IsLeft c edit y → IsKeyFor f y → IsLeft c edit (item.Key k) → k.name ≡ f.key → (k.table ≡ f.target) × ((name : List ℕ) → Contains k.columns name ↔ Contains f.target_columns name)
  bound_by f k (item.Key m) here is there e =
      let one : item.Key m ≡ item.Key k = one_by_name (item.Key m) (item.Key k) (constraints, path_of k.name) here there (ap (λ (o : Object). Some (constraints, path_of o)) (is.0 ∙ sym e)) refl in
      let same : m ≡ k = cc in
      subst (λ (z : Key). (z.table ≡ f.target) × ((name : List ℕ) → Contains z.columns name ↔ Contains f.target_columns name)) same (is.1, is.2)
  bound_by f k y here is there e = absurd is

  keys : (f : Foreign) (k : Key) → IsEitherAdded edit (item.Foreign f) (item.Key k) → Contains whole.0 (item.Foreign f) → Contains whole.0 (item.Key k) → k.name ≡ f.key → (k.table ≡ f.target) × ((name : List ℕ) → Contains k.columns name ↔ Contains f.target_columns name)
  keys f k added h g e = by added (left (item.Foreign f) h)
    where
      new : Contains edit.added (item.Foreign f) → (k.table ≡ f.target) × ((name : List ℕ) → Contains k.columns name ↔ Contains f.target_columns name)
      new here = let y = proper.beside (item.Foreign f) here in bound_by f k y.0 y.1 y.2 (left (item.Key k) g) e

      by : IsEitherAdded edit (item.Foreign f) (item.Key k) → IsLeft c edit (item.Foreign f) → (k.table ≡ f.target) × ((name : List ℕ) → Contains k.columns name ↔ Contains f.target_columns name)
      by (inl a) other = new a
      by (inr b) (inr a) = new a
      by (inr b) (inl old) = absurd ((proper.beside (item.Key k) b).0 (subst (λ (o : Object). Has c (IsKey o)) (sym e) (foreign_key_stands c good f old.0)))

  primary : (a b : Key) → Contains edit.added (item.Key a) → Contains whole.0 (item.Key b) → a.table ≡ b.table → a.primary ≡ true → b.primary ≡ true → a ≡ b
  primary a b h g e pa pb =
      let names : b.name ≡ a.name = (proper.beside (item.Key a) h).1 pa b (left (item.Key b) g) (sym e) pb in
      let one : item.Key a ≡ item.Key b = proper.names (item.Key a) (item.Key b) (constraints, path_of a.name) h (left (item.Key b) g) refl (ap (λ (o : Object). Some (constraints, path_of o)) names) in
      cc

  -- ---- domains

  sort_by : (x : Column) (d : Domain) (y : Item) → IsLeft c edit y → IsDomainOfType d.domain x.sort y → IsLeft c edit (item.Domain d) → x.sort ≡ d.sort
  sort_by x d (item.Domain m) here is there =
      let one : item.Domain m ≡ item.Domain d = one_by_name (item.Domain m) (item.Domain d) (domains, path_of d.domain) here there (ap (λ (o : Object). Some (domains, path_of o)) is.0) refl in
      let same : m ≡ d = cc in
      sym (subst (λ (z : Domain). z.sort ≡ x.sort) same is.1)
  sort_by x d y here is there = absurd is

  sort_of_new : (x : Column) (d : Domain) (on : Option Object) → FitsDomain c edit x on → on ≡ Some d.domain → IsLeft c edit (item.Domain d) → x.sort ≡ d.sort
  sort_of_new x d None fits e there = absurd (let odd : None ≡ Some d.domain = e in cc)
  sort_of_new x d (Some o) fits e there =
      let same : o ≡ d.domain = cc in
      let y = fits.1 in
      sort_by x d y.0 y.1 (subst (λ (z : Object). IsDomainOfType z x.sort y.0) same y.2) there

  same_object : (a b : Object) → path_of a ≡ path_of b → a ≡ b
  same_object a b e = let schemas : a.schema ≡ b.schema = cc in let names : a.name ≡ b.name = cc in λ i. record { schema = schemas i; name = names i }

  old_domain : (d : Domain) (y : Item) → Contains c y → IsDomain (path_of d.domain) y → (old : Domain) × Contains c (item.Domain old) × (old.domain ≡ d.domain)
  old_domain d (item.Domain m) h is = (m, h, sym (same_object d.domain m.domain is))
  old_domain d y h is = absurd is

  sort_of_old : (x : Column) (d : Domain) → Contains c (item.Column x) → Contains edit.added (item.Domain d) → x.domain ≡ Some d.domain → x.sort ≡ d.sort
  sort_of_old x d h new e =
      let rests : RestsOnDomain c x.table.schema (Some d.domain) = subst (RestsOnDomain c x.table.schema) e (good_supports c good (item.Column x) h).2 in
      let stands = rests.0 in
      let old = old_domain d stands.0 stands.1 stands.2 in
      good.shape.domains x old.0 h old.1 (e ∙ ap (λ (o : Object). Some o) (sym old.2)) ∙ proper.beside (item.Domain d) new old.0 old.1 old.2

  sorts : (x : Column) (d : Domain) → IsEitherAdded edit (item.Column x) (item.Domain d) → Contains whole.0 (item.Column x) → Contains whole.0 (item.Domain d) → x.domain ≡ Some d.domain → x.sort ≡ d.sort
  sorts x d added h g e = by added (left (item.Column x) h)
    where
      new : Contains edit.added (item.Column x) → x.sort ≡ d.sort
      new here = sort_of_new x d x.domain (proper.beside (item.Column x) here).0 e (left (item.Domain d) g)

      by : IsEitherAdded edit (item.Column x) (item.Domain d) → IsLeft c edit (item.Column x) → x.sort ≡ d.sort
      by (inl a) other = new a
      by (inr b) (inr a) = new a
      by (inr b) (inl old) = sort_of_old x d old.0 b e

  -- ---- views

  no_view_table : (v : View) (x : Column) (y : Item) → IsLeft c edit y → IsBaseTable x.table y → IsLeft c edit (item.View v) → x.table ≡ v.view → ⊥
  no_view_table v x (item.Table t) here is there e =
      let one : item.Table t ≡ item.View v = one_by_name (item.Table t) (item.View v) (tables, path_of v.view) here there (ap (λ (o : Object). Some (tables, path_of o)) (is ∙ e)) refl in
      cc
  no_view_table v x y here is there e = is

  plain_column : (v : View) (x : Column) (on : Option Object) → FitsDomain c edit x on → IsLeft c edit (item.View v) → x.table ≡ v.view → on ≡ None
  plain_column v x None fits there e = refl
  plain_column v x (Some d) fits there e = let y = fits.0 in absurd (no_view_table v x y.0 y.1 y.2 there e)

  views : (v : View) (x : Column) → IsEitherAdded edit (item.View v) (item.Column x) → Contains whole.0 (item.View v) → Contains whole.0 (item.Column x) → x.table ≡ v.view → x.domain ≡ None
  views v x added h g e = by added (left (item.Column x) g)
    where
      new : Contains edit.added (item.Column x) → x.domain ≡ None
      new here = plain_column v x x.domain (proper.beside (item.Column x) here).0 (left (item.View v) h) e

      by : IsEitherAdded edit (item.View v) (item.Column x) → IsLeft c edit (item.Column x) → x.domain ≡ None
      by (inr b) other = new b
      by (inl a) (inr b) = new b
      by (inl a) (inl old) = absurd ((proper.beside (item.View v) a).0 (subst (λ (o : Object). Has c (IsTable (path_of o))) e (column_table_stands c good x old.0)))

  adds : AddsProperly edit whole.0
  adds = record {
    names = λ x y name h k nx ny. proper.names x y name h (left y k) nx ny;
    allowed = λ x h. (proper.items x h).allowed;
    derived = λ x h. (proper.items x h).derived;
    lists = λ x h. (proper.items x h).lists;
    keys = keys;
    primary = primary;
    domains = sorts;
    view_columns = view_columns_kept c edit whole.0 good.shape whole.1 proper.views (λ v h. has_left (IsColumnOf v.view) (proper.beside (item.View v) h).1);
    view_domains = views;
    no_cycle = no_cycle_of_old c edit whole.0 good.shape whole.1 (old_role_auths c edit whole.0 good.shape whole.1 (λ g h. proper.beside (item.RoleAuth g) h));
    trees = λ x h. (proper.items x h).trees;
  }

  -- the law
  pub sound_edit : IsSound c edit
  sound_edit = record { edited = whole.0; fit = fit; shape = shape_of_edited c edit whole.0 good.shape whole.1 adds }
