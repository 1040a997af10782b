-- Edits of the usual forms are proper.
use Rattle.std.proofs.Common.{◌≡◌, ◌≢◌, ◌⊎◌, inl, inr, ℕ, List, [], ◌∷◌, Option, Some, None, refl, ap, sym, subst, ◌∙◌, arith}
use Rattle.std.specs.List.{Contains}
use Rattle.std.specs.declared.cmp.Ordering.TheVariants.{Equal}
use Rattle.finite_chains.proofs.Members.{Contains-nil}
use Rattle.sql_names.specs.declared.object.Object.{Object}
use Rattle.cat_items.specs.declared.edit.Edit.{Edit}
use Rattle.cat_items.specs.declared.item.Column.{Column}
use Rattle.cat_items.specs.declared.item.Right.{Right}
use Rattle.cat_items.specs.declared.item.View.{View}
use Rattle.cat_items.specs.declared.item.Item.{Item}
use Rattle.cat_items.specs.declared.item.Item.TheVariants as item
use Rattle.cat_items.specs.Fit.{LacksPart, IsSystemRightGone}
use Rattle.cat_items.specs.Good.{IsGood}
use Rattle.cat_items.specs.Order.{item_cmp}
use Rattle.cat_items.specs.Reach.{Has}
use Rattle.cat_items.specs.Rights.{path_of, IsAuthorization, IsBaseTable, IsTable, IsDomain, IsRoutine, IsColumn}
use Rattle.cat_items.specs.Shape.{NameSet, name_of, authorizations, tables, columns, constraints, domains, routines, IsColumnOf}
use Rattle.cat_items.proofs.KeyLemmas.{same_key}
use Rattle.edit_laws.specs.Columns.{KeepsViewColumns}
use Rattle.edit_laws.specs.Kinds.{IsKept}
use Rattle.edit_laws.proofs.EditedLists.{one_by_key}
use Rattle.edit_laws.proofs.Fits.{held_gone, grantable_gone}
use Rattle.edit_laws.proofs.GoodCatalogues.{good_order}
use Rattle.edit_laws.specs.Proper.{IsLeft, HaveOwnNames, IsProperEdit}
use Rattle.edit_laws.specs.Sound.{IsSound}
use Rattle.edit_rules.specs.Names.{IsConstraint}
use Rattle.cat_items.specs.Ranges.{IsView}
use Rattle.edit_laws.specs.Forms.{HasFreeName, IsTaken, IsReplacement, HasOwnName, HasOwnPlace, NamesDiffer, TakesWholeViews, SaysOf, HasForm}
use Rattle.edit_laws.proofs.ProperEdits.{sound_edit}

-- ---- items by their names

abbrev HasName : Item → NameSet → List (List ℕ) → Type 0
HasName y set name = name_of y ≡ Some (set, name)

abbrev pub set_number : NameSet → ℕ
set_number authorizations = 1
set_number tables = 2
set_number (columns t) = 3
set_number constraints = 4
set_number domains = 5
set_number routines = 6

abbrev pub number_in : Option (NameSet × List (List ℕ)) → ℕ
number_in None = 0
number_in (Some name) = set_number name.0

abbrev pub path_in : Option (NameSet × List (List ℕ)) → List (List ℕ)
path_in None = []
path_in (Some name) = name.1

abbrev pub table_of_set : Object → NameSet → Object
table_of_set o (columns t) = t
table_of_set o set = o

abbrev pub table_in : Object → Option (NameSet × List (List ℕ)) → Object
table_in o None = o
table_in o (Some name) = table_of_set o name.0

authorization_named : (y : Item) (n : List ℕ) → HasName y authorizations (n ∷ []) → IsAuthorization n y
authorization_named (item.User a) n e = let p : a ∷ [] ≡ n ∷ [] = ap path_in e in cc
authorization_named (item.Role a) n e = let p : a ∷ [] ≡ n ∷ [] = ap path_in e in cc
authorization_named y n e = absurd (let k : number_in (name_of y) ≡ 1 = ap number_in e in omega (arith, k))

table_named : (y : Item) (path : List (List ℕ)) → HasName y tables path → IsTable path y
table_named (item.Table t) path e = sym (ap path_in e)
table_named (item.View v) path e = sym (ap path_in e)
table_named y path e = absurd (let k : number_in (name_of y) ≡ 2 = ap number_in e in omega (arith, k))

column_named : (y : Item) (t : Object) (n : List ℕ) → HasName y (columns t) (n ∷ []) → IsColumn (path_of t) n y
column_named (item.Column x) t n e =
    let tables : x.table ≡ t = ap (table_in t) e in
    let p : x.name ∷ [] ≡ n ∷ [] = ap path_in e in
    let names : x.name ≡ n = cc in
    (ap path_of (sym tables), names)
column_named y t n e = absurd (let k : number_in (name_of y) ≡ 3 = ap number_in e in omega (arith, k))

domain_named : (y : Item) (path : List (List ℕ)) → HasName y domains path → IsDomain path y
domain_named (item.Domain d) path e = sym (ap path_in e)
domain_named y path e = absurd (let k : number_in (name_of y) ≡ 5 = ap number_in e in omega (arith, k))

routine_named : (y : Item) (path : List (List ℕ)) → HasName y routines path → IsRoutine path y
routine_named (item.Routine r) path e = sym (ap path_in e)
routine_named y path e = absurd (let k : number_in (name_of y) ≡ 6 = ap number_in e in omega (arith, k))

pub same_object : (a b : Object) → path_of a ≡ path_of b → a ≡ b
same_object a b e = let schemas : a.schema ≡ b.schema = cc in let names : a.name ≡ b.name = cc in λ i. record { schema = schemas i; name = names i }

constraint_named : (y : Item) (o : Object) → HasName y constraints (path_of o) → IsConstraint o y
constraint_named (item.DomainCheck d) o e = same_object d.name o (ap path_in e)
constraint_named (item.Key k) o e = same_object k.name o (ap path_in e)
constraint_named (item.Foreign f) o e = same_object f.name o (ap path_in e)
constraint_named (item.Check x) o e = same_object x.name o (ap path_in e)
constraint_named (item.Assertion a) o e = same_object a.name o (ap path_in e)
constraint_named y o e = absurd (let k : number_in (name_of y) ≡ 4 = ap number_in e in omega (arith, k))

-- a free name is that of no item
pub free_name : (c : List Item) (x y : Item) (name : NameSet × List (List ℕ)) → HasFreeName c x → Contains c y → name_of x ≡ Some name → name_of y ≡ name_of x → ⊥
free_name c (item.User n) y name free h e f = free (y, h, authorization_named y n f)
free_name c (item.Role n) y name free h e f = free (y, h, authorization_named y n f)
free_name c (item.Table t) y name free h e f = free (y, h, table_named y (path_of t) f)
free_name c (item.View v) y name free h e f = free (y, h, table_named y (path_of v.view) f)
free_name c (item.Column x) y name free h e f = free (y, h, column_named y x.table x.name f)
free_name c (item.Domain d) y name free h e f = free (y, h, domain_named y (path_of d.domain) f)
free_name c (item.DomainCheck d) y name free h e f = free (y, h, constraint_named y d.name f)
free_name c (item.Key k) y name free h e f = free (y, h, constraint_named y k.name f)
free_name c (item.Foreign k) y name free h e f = free (y, h, constraint_named y k.name f)
free_name c (item.Check x) y name free h e f = free (y, h, constraint_named y x.name f)
free_name c (item.Assertion a) y name free h e f = free (y, h, constraint_named y a.name f)
free_name c (item.Routine r) y name free h e f = free (y, h, routine_named y (path_of r.routine) f)
free_name c x y name free h e f = absurd (let odd : None ≡ Some name = e in cc)

-- ---- rights that are gone

pub gone_from : (edited : List Item) (x : Item) → SaysOf (LacksPart edited) x → IsSystemRightGone edited x
gone_from edited (item.Held r) lacks = held_gone edited r lacks
gone_from edited (item.Grantable r) lacks = grantable_gone edited r lacks
gone_from edited (item.User n) lacks = tt
gone_from edited (item.Role n) lacks = tt
gone_from edited (item.Schema s) lacks = tt
gone_from edited (item.Table t) lacks = tt
gone_from edited (item.View v) lacks = tt
gone_from edited (item.Column x) lacks = tt
gone_from edited (item.Domain d) lacks = tt
gone_from edited (item.DomainCheck d) lacks = tt
gone_from edited (item.Key k) lacks = tt
gone_from edited (item.Foreign f) lacks = tt
gone_from edited (item.Check x) lacks = tt
gone_from edited (item.Assertion a) lacks = tt
gone_from edited (item.Routine r) lacks = tt
gone_from edited (item.RoleAuth g) lacks = tt
gone_from edited (item.RoleAdmin g) lacks = tt

module _ (c : List Item) (edit : Edit) (good : IsGood c) where
  -- what is taken isn't kept
  not_kept : (x : Item) → IsTaken edit x → IsKept c edit x → ⊥
  not_kept x (inl t) k = k.1 t
  not_kept x (inr t) k = k.2 t

  no_name : (x y : Item) (name : NameSet × List (List ℕ)) → HasOwnName c edit x → IsKept c edit y → name_of x ≡ Some name → name_of y ≡ Some name → ⊥
  no_name x y name (inl free) k nx ny = free_name c x y name free k.0 nx (ny ∙ sym nx)
  no_name x y name (inr old) k nx ny =
      let same : old.0 ≡ y = good.shape.names old.0 y name old.1 k.0 (old.3 ∙ nx) ny in
      not_kept y (subst (IsTaken edit) same old.2) k

  -- names are their own where each is free or replaces one
  pub own_names : NamesDiffer edit.added → ((x : Item) → Contains edit.added x → HasOwnName c edit x) → HaveOwnNames c edit
  own_names differ own x y name h (inl k) nx ny = absurd (no_name x y name (own x h) k nx ny)
  own_names differ own x y name h (inr k) nx ny = differ x y name h k nx ny

  same_place : (x y : Column) → x.table ≡ y.table → x.place ≡ y.place → item_cmp (item.Column x) (item.Column y) ≡ Equal
  same_place x y t p =
      subst (λ (o : Object). item_cmp (item.Column x) (item.Column (record y { table = o })) ≡ Equal) t
      (subst (λ (n : ℕ). item_cmp (item.Column x) (item.Column (record y { table = x.table; place = n })) ≡ Equal) p (same_key (item.Column x)))

  -- no kept column has the place of one that has its own
  pub own_place : (x : Column) → HasOwnPlace c edit x → (old : Column) → IsKept c edit (item.Column old) → old.table ≡ x.table → old.place ≡ x.place → ⊥
  own_place x (inl none) old k t p = none old k.0 t p
  own_place x (inr z) old k t p =
      let same : item.Column z.0 ≡ item.Column old = one_by_key c (good_order c good) (item.Column z.0) (item.Column old) z.1 k.0 (same_place z.0 old (z.3 ∙ sym t) (z.4 ∙ sym p)) in
      not_kept (item.Column old) (subst (IsTaken edit) same z.2) k

  -- ---- views

  view_is_no_table : (v : View) (y : Item) → Contains c (item.View v) → Contains c y → IsBaseTable v.view y → ⊥
  view_is_no_table v (item.Table t) h k e =
      let one : item.Table t ≡ item.View v = good.shape.names (item.Table t) (item.View v) (tables, path_of v.view) k h (ap (λ (o : Object). Some (tables, path_of o)) e) refl in
      cc
  view_is_no_table v y h k e = e

  view_is_one : (v : View) (y : Item) → Contains c (item.View v) → Contains c y → IsView v.view y → y ≡ item.View v
  view_is_one v (item.View w) h k e = good.shape.names (item.View w) (item.View v) (tables, path_of v.view) k h (ap (λ (o : Object). Some (tables, path_of o)) e) refl
  view_is_one v y h k e = absurd e

  -- views keep their columns where they go whole
  pub views_keep : ((x : Item) → Contains edit.target x → Contains c x) → TakesWholeViews c edit → KeepsViewColumns c edit
  views_keep within whole v (item.Column x) k h of = (λ t. by (whole x (inl t)), λ t. by (whole x (inr t)))
    where
      by : Has c (IsBaseTable x.table) ⊎ Has edit.target (IsView x.table) → ⊥
      by (inl t) = view_is_no_table v t.0 k.0 t.1 (subst (λ (o : Object). IsBaseTable o t.0) of t.2)
      by (inr w) =
          let same : w.0 ≡ item.View v = view_is_one v w.0 k.0 (within w.0 w.1) (subst (λ (o : Object). IsView o w.0) of w.2) in
          k.1 (subst (Contains edit.target) same w.1)
  views_keep within whole v x k h of = absurd of

  -- an edit of one of the usual forms is proper
  pub proper_form : HasForm c edit → IsProperEdit c edit
  proper_form f = record {
    target_order = f.target_order;
    target = f.target;
    changed_order = f.changed_order;
    changed = f.changed;
    added_order = f.added_order;
    apart = f.apart;
    gone = λ edited is x h. gone_from edited x (f.gone edited is x h);
    names = own_names f.differ f.own_names;
    items = f.items;
    beside = f.beside;
    views = views_keep f.target f.views;
  }

  pub sound_form : HasForm c edit → IsSound c edit
  sound_form f = sound_edit c edit good (proper_form f)
