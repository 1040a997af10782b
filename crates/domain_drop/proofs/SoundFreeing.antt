-- Columns that outlive their domain are freed soundly, with copies of its checks.
use Rattle.std.proofs.Common.{◌≡◌, ◌≢◌, ◌⊎◌, inl, inr, ℕ, List, [], ◌∷◌, Option, Some, None, refl, ap, sym, subst, ◌∙◌, arith}
use Rattle.std.specs.List.{Contains, flat_map}
use Rattle.std.proofs.lemmas.List.Elements.{Contains-append_cases}
use Rattle.finite_chains.proofs.Members.{Contains-nil, Contains-head, Contains-tail, Contains-cases}
use Rattle.sql_names.specs.NameBytes.{PathNames}
use Rattle.sql_names.specs.declared.object.Object.{Object}
use Rattle.sql_names.specs.declared.sort.Default.{Default}
use Rattle.cat_items.specs.declared.edit.Edit.{Edit}
use Rattle.cat_items.specs.declared.item.Check.{Check}
use Rattle.cat_items.specs.declared.item.Column.{Column}
use Rattle.cat_items.specs.declared.item.Item.{Item}
use Rattle.cat_items.specs.declared.item.Item.TheVariants as item
use Rattle.cat_items.specs.Fit.{IsRight}
use Rattle.cat_items.specs.Good.{IsGood}
use Rattle.cat_items.specs.Pieces.{AreResolved, default_pieces, expr_pieces}
use Rattle.cat_items.specs.Ranges.{IsView}
use Rattle.cat_items.specs.Reach.{Has}
use Rattle.cat_items.specs.Rights.{path_of, IsBaseTable, IsTable}
use Rattle.cat_items.specs.Shape.{NameSet, name_of, columns}
use Rattle.edit_rules.specs.Chosen.{AreChosen}
use Rattle.edit_laws.specs.Forms.{HasOwnName, IsTaken, RightsLackParts, TakesWholeViews}
use Rattle.edit_laws.specs.Proper.{IsProperBeside, IsProperItem}
use Rattle.edit_laws.specs.PutBack.{IsPutBack as IsColumnPutBack}
use Rattle.edit_laws.specs.Sound.{IsSound}
use Rattle.edit_laws.specs.Users.{LeavesUsers}
use Rattle.edit_laws.proofs.FormLaws.{number_in, path_in, same_object, sound_form, table_in}
use Rattle.edit_laws.proofs.GoodCatalogues.{column_table_stands, good_order}
use Rattle.edit_laws.proofs.PutBackLaws.{put_back_beside, put_back_item, put_back_name}
use Rattle.own_columns.proofs.Replaced.{resolved_with_column}
use Rattle.domain_drop.specs.CheckCopies.{Pair, condition_of, pairs_here, pairs_of, pairs_with}
use Rattle.domain_drop.specs.Drops.{IsFreeing, IsPutBack}
use Rattle.domain_drop.specs.FreedColumns.{IsFreed, freed, own_or}
use Rattle.domain_drop.proofs.CopyLemmas.{Copied, copied, copies_differ, copy_is_free}
use Rattle.domain_drop.proofs.FreedLemmas.{one_domain, same_name}

-- ---- defaults

formed_or : (a b : Option Default) → AreResolved (default_pieces a) → AreResolved (default_pieces b) → AreResolved (default_pieces (own_or a b))
formed_or None b p q = q
formed_or (Some d) b p q = p

-- ---- pairs

only_pair : (q p : Pair) → Contains (q ∷ []) p → q ≡ p
only_pair q p h = elim (Contains-cases q [] p h) [ inl e ↦ e | inr none ↦ absurd (Contains-nil p none) ]

-- a pair is made of one of the items
pair_from : (f : Item → List Pair) (items : List Item) (p : Pair) → Contains (flat_map f items) p → (y : Item) × Contains items y × Contains (f y) p
pair_from f [] p h = absurd (Contains-nil p h)
pair_from f (y ∷ items) p h =
    elim (Contains-append_cases (f y) (flat_map f items) p h) [
      | inl here ↦ (y, Contains-head y items, here)
      | inr rest ↦ let of = pair_from f items p rest in (of.0, Contains-tail y items of.0 of.1, of.2)
    ]

check_with : (x : Column) (y : Item) (p : Pair) → Contains (pairs_with x y) p → y ≡ item.DomainCheck p.check
check_with x (item.DomainCheck d) p h = ap (λ (z : Pair). item.DomainCheck z.check) (only_pair (record { column = x; check = d }) p h)
check_with x y p h = absurd (Contains-nil p h)

check_here : (checks : List Item) (y : Item) (p : Pair) → Contains (pairs_here checks y) p → Contains checks (item.DomainCheck p.check)
check_here checks (item.Column x) p h = let of = pair_from (pairs_with x) checks p h in subst (Contains checks) (check_with x of.0 p of.2) of.1
check_here checks y p h = absurd (Contains-nil p h)

-- the check of a pair is one of the checks
pub check_of : (based_ones checks : List Item) (p : Pair) → Contains (pairs_of based_ones checks) p → Contains checks (item.DomainCheck p.check)
check_of based_ones checks p h = let of = pair_from (pairs_here checks) based_ones p h in check_here checks of.0 p of.2

-- columns of one table and name are one
one_column : (c : List Item) → IsGood c → (x y : Column) → Contains c (item.Column x) → Contains c (item.Column y) → x.table ≡ y.table → x.name ≡ y.name → x ≡ y
one_column c good x y h k t n =
    let names : name_of (item.Column x) ≡ name_of (item.Column y) = λ i. Some (columns (t i), n i ∷ []) in
    let one : item.Column x ≡ item.Column y = good.shape.names (item.Column x) (item.Column y) (columns y.table, y.name ∷ []) h k names refl in
    cc

one_of : {a b : List ℕ} → a ∷ [] ≡ b ∷ [] → a ≡ b
one_of e = cc

-- ---- the edit

module _ (c : List Item) (Frees : Column → Type 0) (Taken : Item → Type 0) (edit : Edit) (good : IsGood c)
    (based : (x : Column) → Frees x → x.domain ≢ None) (no_column : (x : Column) → ¬ (Taken (item.Column x))) (gone : RightsLackParts c edit)
    (target : AreChosen c Taken edit.target) (is : IsFreeing c Frees edit) where
  abbrev Put : Item → Type 0
  Put x = IsPutBack c Frees is.copies x

  made : (x : Check) → Contains is.copies x → Copied c [] (pairs_of edit.changed is.checks) x
  made x h = copied c [] (pairs_of edit.changed is.checks) is.copies is.are_copies x h

  back : (x : Column) → Put (item.Column x) → IsColumnPutBack c edit x
  back x h = record {
    old = h.0;
    stood = h.1;
    taken = inr ((is.changed.members (item.Column h.0)).1 (h.1, h.2));
    table = ap (λ (z : Column). z.table) h.3.3;
    place = ap (λ (z : Column). z.place) h.3.3;
    name = ap (λ (z : Column). z.name) h.3.3;
    sort = ap (λ (z : Column). z.sort) h.3.3;
    domain = inl (ap (λ (z : Column). z.domain) h.3.3);
    default = subst (λ (z : Column). AreResolved (default_pieces z.default)) (sym h.3.3)
        (formed_or h.0.default h.3.0.default (good.shape.trees (item.Column h.0) h.1).1 (good.shape.trees (item.Domain h.3.0) h.3.1).1);
  }

  put : (x : Item) → Contains edit.added x → Put x
  put x h = (is.added.members x).0 h

  own : (x : Item) → Put x → HasOwnName c edit x
  own (item.Column x) h = put_back_name c edit good x (back x h)
  own (item.Check x) h = inl (copy_is_free c [] (pairs_of edit.changed is.checks) x (made x h))
  own x h = absurd h

  -- the check that was copied stands
  stood : (p : Pair) → Contains (pairs_of edit.changed is.checks) p → Contains c (item.DomainCheck p.check)
  stood p h = ((is.are_checks.members (item.DomainCheck p.check)).0 (check_of edit.changed is.checks p h)).0

  copy_item : (x : Check) → Contains is.copies x → IsProperItem (item.Check x)
  copy_item x h =
      let k = made x h in
      let p = k.pair in
      let tree : AreResolved (expr_pieces (condition_of p)) = resolved_with_column p.column.table p.column.name p.check.cond (good.shape.trees (item.DomainCheck p.check) (stood p k.among)) in record {
        allowed = k.copy.schema ∙ ap (λ (o : Object). o.schema) (sym k.copy.table);
        derived = (k.copy.needs, k.copy.columns);
        lists = tt;
        trees = subst (λ e. AreResolved (expr_pieces e)) (sym k.copy.condition) tree;
      }

  proper : (x : Item) → Put x → IsProperItem x
  proper (item.Column x) h = put_back_item c edit good x (back x h)
  proper (item.Check x) h = copy_item x h
  proper x h = absurd h

  beside_it : (x : Item) → Put x → IsProperBeside c edit x
  beside_it (item.Column x) h = put_back_beside c edit good x (back x h)
  beside_it (item.Check x) h = tt
  beside_it x h = absurd h

  -- columns that are put back in the place of one are one
  same_back : (x y : Column) → Put (item.Column x) → Put (item.Column y) → x.table ≡ y.table → x.name ≡ y.name → x ≡ y
  same_back x y h k t n =
      let tables : h.0.table ≡ k.0.table = sym (ap (λ (z : Column). z.table) h.3.3) ∙ t ∙ ap (λ (z : Column). z.table) k.3.3 in
      let names : h.0.name ≡ k.0.name = sym (ap (λ (z : Column). z.name) h.3.3) ∙ n ∙ ap (λ (z : Column). z.name) k.3.3 in
      let same : h.0 ≡ k.0 = one_column c good h.0 k.0 h.1 k.1 tables names in
      let domains : h.3.0.domain ≡ k.3.0.domain = same_name h.3.0.domain k.3.0.domain (sym h.3.2 ∙ ap (λ (z : Column). z.domain) same ∙ k.3.2) in
      let one : h.3.0 ≡ k.3.0 = one_domain c (good_order c good) h.3.0 k.3.0 h.3.1 k.3.1 domains in
      h.3.3 ∙ (λ i. freed (same i) (one i)) ∙ sym k.3.3

  -- what is put back and copied differs by name
  differ : (x y : Item) (name : NameSet × PathNames) → Put x → Put y → name_of x ≡ Some name → name_of y ≡ Some name → x ≡ y
  differ (item.Column x) (item.Column y) name h k nx ny = ap item.Column (same_back x y h k (ap (table_in x.table) (nx ∙ sym ny)) (one_of (ap path_in (nx ∙ sym ny))))
  differ (item.Check x) (item.Check y) name h k nx ny = ap item.Check (copies_differ c [] (pairs_of edit.changed is.checks) is.copies is.are_copies x y h k (same_object x.name y.name (ap path_in (nx ∙ sym ny))))
  differ (item.Column x) (item.Check y) name h k nx ny = absurd (let odd : 3 ≡ 4 = ap number_in (nx ∙ sym ny) in omega (arith, odd))
  differ (item.Check x) (item.Column y) name h k nx ny = absurd (let odd : 4 ≡ 3 = ap number_in (nx ∙ sym ny) in omega (arith, odd))
  differ x (item.Column y) name h k nx ny = absurd h
  differ x (item.Check y) name h k nx ny = absurd h
  differ x y name h k nx ny = absurd k

  freed_apart : (x : Item) → IsFreed Frees x → (¬ (Taken x)) × (¬ (Put x)) × (¬ (IsRight x))
  freed_apart (item.Column x) f = (no_column x, (λ h. based x f (ap (λ (z : Column). z.domain) h.3.3)), λ z. z)
  freed_apart x f = absurd f

  views : TakesWholeViews c edit
  views x t = by t
    where
      by_item : Frees x → Contains c (item.Column x) → (y : Item) → Contains c y → IsTable (path_of x.table) y → Has c (IsBaseTable x.table)
      by_item f h (item.Table t) k s = (item.Table t, k, sym (same_object x.table t s))
      by_item f h (item.View v) k s = absurd (based x f (good.shape.view_domains v x k h (same_object x.table v.view s)))
      by_item f h y k s = absurd s

      of_freed : Contains c (item.Column x) → Frees x → Has c (IsBaseTable x.table)
      of_freed h f = let s = column_table_stands c good x h in by_item f h s.0 s.1 s.2

      by : IsTaken edit (item.Column x) → Has c (IsBaseTable x.table) ⊎ Has edit.target (IsView x.table)
      by (inl h) = absurd (no_column x ((target.members (item.Column x)).0 h).1)
      by (inr h) = let m = (is.changed.members (item.Column x)).0 h in inl (of_freed m.0 m.1)

  pub sound_freeing : IsSound c edit
  sound_freeing = sound_form c edit good (record {
    target_order = target.order;
    target = λ x h. ((target.members x).0 h).0;
    changed_order = is.changed.order;
    changed = λ x h. ((is.changed.members x).0 h).0;
    added_order = is.added.order;
    apart = λ x h. let f = freed_apart x ((is.changed.members x).0 h).1 in ((λ t. f.0 ((target.members x).0 t).1), (λ a. f.1 (put x a)), f.2);
    gone = gone;
    differ = λ x y n h k nx ny. differ x y n (put x h) (put y k) nx ny;
    own_names = λ x h. own x (put x h);
    items = λ x h. proper x (put x h);
    beside = λ x h. beside_it x (put x h);
    views = views;
  })

-- no user is freed or put back
pub freeing_leaves_users : (c : List Item) (Frees : Column → Type 0) (Taken : Item → Type 0) (edit : Edit) → ((name : List ℕ) → ¬ (Taken (item.User name))) → AreChosen c Taken edit.target → IsFreeing c Frees edit → LeavesUsers edit
freeing_leaves_users c Frees Taken edit none target is name = (
  λ h. none name ((target.members (item.User name)).0 h).1,
  λ h. ((is.changed.members (item.User name)).0 h).1,
  λ h. (is.added.members (item.User name)).0 h,
)
