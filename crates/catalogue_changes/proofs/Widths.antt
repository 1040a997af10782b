-- How many columns tables and views have after a change.
use Rattle.std.proofs.Common.{◌≡◌, ◌↔◌, ◌⊎◌, Bool, true, false, not, ℕ, ◌+◌, ◌-◌, ◌<◌, ◌≤◌, List, [], ◌∷◌, Option, Some, None, length, take, drop, get_or, refl, sym, ◌∙◌, ap, subst, inl, inr, arith}
use Rattle.std.specs.List.{Contains}
use Rattle.std.specs.Option.{IfSome, IfNone}
use Rattle.std.specs.Ordering.{ordering_then}
use Rattle.std.specs.declared.cmp.Ordering.{Ordering}
use Rattle.std.specs.declared.cmp.Ordering.TheVariants.{Less, Equal, Greater}
use Rattle.std.proofs.lemmas.Bool.{false≢true, cases_lt, cases_eq}
use Rattle.std.proofs.lemmas.List.{get_or_default, length-drop, length-take-le}
use Rattle.std.proofs.lemmas.List.Elements.{Contains-get_or}
use Rattle.sql_names.specs.Names.{name_cmp-IsAntisymmetric}
use Rattle.sql_names.specs.declared.object.Object.{Object}
use Rattle.cat_items.specs.declared.item.Item.{Item}
use Rattle.cat_items.specs.declared.item.Item.TheVariants as item
use Rattle.cat_items.specs.Catalogues.{IsInOrder}
use Rattle.cat_items.specs.Fit.{IsRight}
use Rattle.cat_items.specs.Good.{IsGood}
use Rattle.cat_items.specs.Order.{name_cmp, object_cmp, item_cmp}
use Rattle.cat_items.specs.Ranges.{IsRange}
use Rattle.cat_items.specs.Reach.{Has}
use Rattle.cat_items.specs.Rights.{path_of, IsTable}
use Rattle.cat_items.specs.Shape.{IsColumnOf}
use Rattle.cat_items.specs.Supported.{Supported}
use Rattle.cat_items.proofs.CatalogueLemmas.{rising, in_order}
use Rattle.cat_items.proofs.KeyLemmas.{same_key}
use Rattle.new_catalogues.specs.Width.{table_name, HasColumnCount, HasMoreColumns, IsLeastWide}
use Rattle.new_catalogues.proofs.Joins.{one_by_key}
use Rattle.new_catalogues.proofs.WidthLemmas.{column_range, not_wide}
use Rattle.catalogue_changes.specs.declared.change.Change.{Change}
use Rattle.catalogue_changes.specs.declared.width.TableKind.{TableKind}
use Rattle.catalogue_changes.specs.declared.width.TableKind.TheVariants.{BaseTable, View}
use Rattle.catalogue_changes.specs.Changes.{IsChange}
use Rattle.catalogue_changes.specs.Widths.{IsNarrow, column_table, IsOf, IsWideAs, IsFirstWide}
use Rattle.catalogue_changes.proofs.Changed.{exchange}
use Rattle.catalogue_changes.proofs.Keys.{same_or_other}
use Rattle.catalogue_changes.proofs.Lengths.{chosen, exchanged_length}
use Rattle.catalogue_changes.proofs.Outcomes.{chain_support, right_by_system}

-- ---- names of tables and views

both_equal : (a b : Ordering) → ordering_then a b ≡ Equal → (a ≡ Equal) × (b ≡ Equal)
both_equal Less b e = absurd (let odd : Less ≡ Equal = e in cc)
both_equal Equal b e = (refl, e)
both_equal Greater b e = absurd (let odd : Greater ≡ Equal = e in cc)

same_object : (a b : Object) → object_cmp a b ≡ Equal → a ≡ b
same_object a b e =
    let both = both_equal (name_cmp a.schema b.schema) (name_cmp a.name b.name) e in
    let schemas : a.schema ≡ b.schema = name_cmp-IsAntisymmetric a.schema b.schema both.0 in
    let names : a.name ≡ b.name = name_cmp-IsAntisymmetric a.name b.name both.1 in
    λ i. record { schema = schemas i; name = names i }

object_itself : (o : Object) → object_cmp o o ≡ Equal
object_itself o = same_key (item.Table o)

-- whether an item is a column of a table or a view can be told
pub column_or_not : (o : Object) (x : Item) → IsColumnOf o x ⊎ (¬ (IsColumnOf o x))
column_or_not o (item.Column c) =
    elim (same_or_other (object_cmp c.table o)) [
      | inl e ↦ inl (same_object c.table o e)
      | inr other ↦ inr (λ e. other (subst (λ z. object_cmp z o ≡ Equal) (sym e) (object_itself o)))
    ]
column_or_not o x = inr (λ h. h)

-- a column is one of its table or view
pub column_has : (x : Item) (o : Object) → Some o ≡ column_table x → IsColumnOf o x
column_has (item.Column c) o e = let same : Some o ≡ Some c.table = e in let is : c.table ≡ o = cc in is
column_has x o e = absurd (let odd : Some o ≡ None = e in cc)

pub no_column_has : (x : Item) (o : Object) → None ≡ column_table x → ¬ (IsColumnOf o x)
no_column_has (item.Column c) o e h = let odd : None ≡ Some c.table = e in cc
no_column_has x o e h = h

one_table : (x : Item) (o p : Object) → IsColumnOf o x → IsColumnOf p x → o ≡ p
one_table (item.Column c) o p h k = sym h ∙ k
one_table x o p h k = absurd h

-- ---- base tables and views

-- the order of two of one kind is that of their names
of_cmp : (kind : TableKind) (o p : Object) (x y : Item) → IsOf kind o x → IsOf kind p y → item_cmp x y ≡ object_cmp o p
of_cmp BaseTable o p (item.Table t) (item.Table u) h k = λ i. object_cmp (h i) (k i)
of_cmp BaseTable o p (item.Table t) y h k = absurd k
of_cmp BaseTable o p x y h k = absurd h
of_cmp View o p (item.View v) (item.View w) h k = λ i. object_cmp (h i) (k i)
of_cmp View o p (item.View v) y h k = absurd k
of_cmp View o p x y h k = absurd h

pub one_of : (kind : TableKind) (o : Object) (x y : Item) → IsOf kind o x → IsOf kind o y → item_cmp x y ≡ Equal
one_of kind o x y h k = of_cmp kind o o x y h k ∙ object_itself o

named_by : (kind : TableKind) (o : Object) (x : Item) → IsOf kind o x → table_name x ≡ Some o
named_by BaseTable o (item.Table t) h = ap Some h
named_by BaseTable o x h = absurd h
named_by View o (item.View v) h = ap Some h
named_by View o x h = absurd h

which_kind : (o : Object) (x : Item) → table_name x ≡ Some o → IsOf BaseTable o x ⊎ IsOf View o x
which_kind o (item.Table t) e = inl (let same : Some t ≡ Some o = e in let is : t ≡ o = cc in is)
which_kind o (item.View v) e = inr (let same : Some v.view ≡ Some o = e in let is : v.view ≡ o = cc in is)
which_kind o x e = absurd (let odd : None ≡ Some o = e in cc)

tables_first : (o p : Object) (x y : Item) → IsOf BaseTable o x → IsOf View p y → item_cmp x y ≡ Less
tables_first o p (item.Table t) (item.View v) h k = refl
tables_first o p (item.Table t) y h k = absurd k
tables_first o p x y h k = absurd h

-- a later column is not of an earlier table
first_less : (a b : Ordering) → ordering_then a b ≡ Less → (a ≡ Less) ⊎ (a ≡ Equal)
first_less Less b e = inl refl
first_less Equal b e = inr refl
first_less Greater b e = absurd (let odd : Greater ≡ Less = e in cc)

columns_rise : (o p : Object) (x y : Item) → IsColumnOf o x → IsColumnOf p y → item_cmp x y ≡ Less → (object_cmp o p ≡ Less) ⊎ (object_cmp o p ≡ Equal)
columns_rise o p (item.Column a) (item.Column b) h k less =
    let by : (object_cmp a.table b.table ≡ Less) ⊎ (object_cmp a.table b.table ≡ Equal) = first_less (object_cmp a.table b.table) _ less in
    subst (λ z. (object_cmp o z ≡ Less) ⊎ (object_cmp o z ≡ Equal)) k (subst (λ z. (object_cmp z b.table ≡ Less) ⊎ (object_cmp z b.table ≡ Equal)) h by)
columns_rise o p (item.Column a) y h k less = absurd k
columns_rise o p x y h k less = absurd h

-- ---- counts of columns

pub counted : (xs : List Item) → IsInOrder xs → (o : Object) → (n : ℕ) × HasColumnCount xs o n
counted xs order o =
    let some = chosen (IsColumnOf o) xs (λ x h. column_or_not o x) (rising xs order) in
    (length some.0, record { columns = some.0; order = in_order some.0 some.1; members = some.2; counted = refl })

module _ (c new : List Item) (change : Change) (order : IsInOrder c) (is : IsChange c new change) where
  abbrev out : List Item
  out = change.leaving.items

  abbrev more : List Item
  more = change.coming.items

  -- a table or view has the columns that it had, without those that leave and with those that come
  pub columns_change : (o : Object) (a b d n : ℕ) → HasColumnCount c o a → HasColumnCount out o b → HasColumnCount more o d → HasColumnCount new o n → n + b ≡ a + d
  columns_change o a b d n old gone comes has =
      let ex = exchange c new change order is in
      let long = exchanged_length old.columns gone.columns comes.columns has.columns (record {
        order = old.order;
        out_order = gone.order;
        more_order = comes.order;
        new_order = has.order;
        within = λ x h. let p = (gone.members x).0 h in (old.members x).1 (is.leaving x p.0, p.1);
        members = λ x. (
          λ h. let p = (has.members x).0 h in elim ((is.members x).0 p.0) [
            | inl stays ↦ inl ((old.members x).1 (stays.0, p.1), λ q. stays.1 ((gone.members x).0 q).0)
            | inr came ↦ inr ((comes.members x).1 (came, p.1))
          ],
          λ h. (has.members x).1 (elim h [
            | inl stays ↦ let p = (old.members x).0 stays.0 in ((is.members x).1 (inl (p.0, λ q. stays.1 ((gone.members x).1 (q, p.1)))), p.1)
            | inr came ↦ let p = (comes.members x).0 came in ((is.members x).1 (inr p.0), p.1)
          ]),
        );
        apart = λ x h stays came.
            let p = (old.members x).0 h in
            ex.apart x p.0 (λ q. stays ((gone.members x).1 (q, p.1))) ((comes.members x).0 came).0;
      }) in
      omega (arith, long, old.counted, gone.counted, comes.counted, has.counted)

  -- no more columns leave than there are
  pub fewer_leave : (o : Object) (a b : ℕ) → HasColumnCount c o a → HasColumnCount out o b → b ≤ a
  fewer_leave o a b old gone =
      let long = Rattle.catalogue_changes.proofs.Lengths.no_longer old.columns gone.columns old.order gone.order (λ x h. let p = (gone.members x).0 h in (old.members x).1 (is.leaving x p.0, p.1)) in
      omega (arith, long, old.counted, gone.counted)

  pub count_after : (o : Object) (a b d n : ℕ) → HasColumnCount c o a → HasColumnCount out o b → HasColumnCount more o d → n + b ≡ a + d → HasColumnCount new o n
  count_after o a b d n old gone comes e =
      let has = counted new is.new_order o in
      let f = columns_change o a b d has.0 old gone comes has.1 in
      subst (HasColumnCount new o) (omega (arith, e, f)) has.1

-- ---- a good catalogue has the table or view of each column

no_table : (path : List (List ℕ)) (x : Item) → IsRight x → IsTable path x → ⊥
no_table path (item.Held r) h p = p
no_table path (item.Grantable r) h p = p
no_table path x h p = absurd h

table_of_path : (o : Object) (x : Item) → IsTable (path_of o) x → table_name x ≡ Some o
table_of_path o (item.Table t) e =
    let same : o.schema ∷ (o.name ∷ []) ≡ t.schema ∷ (t.name ∷ []) = e in
    let schemas : t.schema ≡ o.schema = cc in
    let names : t.name ≡ o.name = cc in
    λ i. Some (record { schema = schemas i; name = names i })
table_of_path o (item.View v) e =
    let same : o.schema ∷ (o.name ∷ []) ≡ v.view.schema ∷ (v.view.name ∷ []) = e in
    let schemas : v.view.schema ≡ o.schema = cc in
    let names : v.view.name ≡ o.name = cc in
    λ i. Some (record { schema = schemas i; name = names i })
table_of_path o x e = absurd e

column_rests : (all s : List Item) (o : Object) (x : Item) → IsColumnOf o x → Supported all s x → Has s (IsTable (path_of o))
column_rests all s o (item.Column c) h rests = subst (λ t. Has s (IsTable (path_of t))) h rests.1
column_rests all s o x h rests = absurd h

pub table_stands : (c : List Item) → IsGood c → (o : Object) (x : Item) → Contains c x → IsColumnOf o x → (y : Item) × Contains c y × (table_name y ≡ Some o)
table_stands c good o x here column =
    let s = (good.survivors.members x).0 here in
    let by = chain_support (Supported good.all) good.all s.0 s.1 x s.2 in
    let table = column_rests good.all by.0 o x column by.2 in
    elim ((good.with_system.members table.0).0 (by.1 table.0 table.1)) [
      | inl there ↦ (table.0, there, table_of_path o table.0 table.2)
      | inr right ↦ absurd (no_table (path_of o) table.0 (right_by_system c table.0 right) table.2)
    ]

-- so none has many columns before
few_before : (c : List Item) (most : ℕ) → IsGood c → IsNarrow c most → (o : Object) (a : ℕ) → HasColumnCount c o a → a ≤ most
few_before c most good narrow o a old =
    elim (cases_lt most a) [
      | inl many ↦
          let d : Item = item.User [] in
          let x : Item = get_or old.columns 0 d in
          let column = (old.members x).0 (Contains-get_or old.columns 0 d (omega (arith, many, old.counted))) in
          let table = table_stands c good o x column.0 column.1 in
          absurd (narrow a table.0 (record { table = o; within = table.1; named = table.2; columns = old; more = many }))
      | inr few ↦ few
    ]

-- ---- going over what comes

module _ (c : List Item) (change : Change) (most : ℕ) (kind : TableKind) where
  abbrev come : List Item
  come = change.coming.items

  -- no table or view of this name is wide after the change
  abbrev pub NoneIs : Object → Type 0
  NoneIs o = (new : List Item) → IsChange c new change → (count : ℕ) → IsWideAs kind o new most count → ⊥

  -- none of those is that have a column before this place
  abbrev pub NoneYet : ℕ → Type 0
  NoneYet at = (k : ℕ) → k < at → (d : Item) (o : Object) → IsColumnOf o (get_or come k d) → NoneIs o

  pub past_other : (at : ℕ) (x : Item) → at < length come → x ≡ get_or come at x → None ≡ column_table x → NoneYet at → NoneYet (at + 1)
  past_other at x within is other none k below d o h =
      elim (cases_lt k at) [
        | inl before ↦ none k before d o h
        | inr from ↦
            let e : k ≡ at = omega (arith, below, from) in
            absurd (no_column_has x o other (subst (IsColumnOf o) (get_or_default come at d x within ∙ sym is) (subst (λ n. IsColumnOf o (get_or come n d)) e h)))
      ]

  pub past_columns : (at start end : ℕ) (x : Item) (o : Object) → at < length come → x ≡ get_or come at x → Some o ≡ column_table x → IsRange come start end (IsColumnOf o) → NoneIs o → NoneYet at → NoneYet end
  past_columns at start end x o within is own range none_is none k below d p h =
      let between = range.outside at x within (subst (IsColumnOf o) is (column_has x o own)) in
      elim (cases_lt k at) [
        | inl before ↦ none k before d p h
        | inr from ↦ subst NoneIs (one_table (get_or come k d) o p (range.inside k d (omega (arith, between.0, from)) below) h) none_is
      ]

  module _ (order : IsInOrder c) (good : IsGood c) (narrow : IsNarrow c most) where
    -- a wide table or view gets a column
    gets_column : (new : List Item) → IsChange c new change → (o : Object) (n : ℕ) → HasColumnCount new o n → most < n → (y : Item) × Contains come y × IsColumnOf o y
    gets_column new is o n has many =
        let old = counted c order o in
        let gone = counted change.leaving.items is.leaving_order o in
        let comes = counted come is.coming_order o in
        let total = columns_change c new change order is o old.0 gone.0 comes.0 n old.1 gone.1 comes.1 has in
        let few = few_before c most good narrow o old.0 old.1 in
        let d : Item = item.User [] in
        let some : 0 < length comes.1.columns = omega (arith, total, few, many, comes.1.counted) in
        let y : Item = get_or comes.1.columns 0 d in
        let both = (comes.1.members y).0 (Contains-get_or comes.1.columns 0 d some) in
        (y, both.0, both.1)

    same_name : (o p : Object) (x : Item) → table_name x ≡ Some o → table_name x ≡ Some p → o ≡ p
    same_name o p x e f = let same : Some o ≡ Some p = sym e ∙ f in cc

    -- the columns of what is wide, by its name
    wide_columns : (new : List Item) (o : Object) (n : ℕ) (x : Item) → IsOf kind o x → HasMoreColumns new most n x → HasColumnCount new o n
    wide_columns new o n x of has = subst (λ t. HasColumnCount new t n) (same_name has.table o x has.named (named_by kind o x of)) has.columns

    pub none_at_end : (at : ℕ) → length come ≤ at → NoneYet at → (o : Object) → NoneIs o
    none_at_end at all none o new is n wide =
        let y = gets_column new is o n (wide_columns new o n wide.0 wide.1 wide.2) wide.2.more in
        none y.1.0 (omega (arith, y.1.1, all)) y.0 o (subst (IsColumnOf o) (sym y.1.2) y.2) new is n wide

    pub first_found : (at : ℕ) (x : Item) (o : Object) → at < length come → x ≡ get_or come at x → Some o ≡ column_table x → NoneYet at
        → (new : List Item) → IsChange c new change → (count : ℕ) → IsWideAs kind o new most count → IsFirstWide kind new most count
    first_found at x o within here own none new is count wide = record {
      name = o;
      table = wide.0;
      of = wide.1;
      is = wide.2;
      least = λ p n other of has. later p n other of has (gets_column new is p n (wide_columns new p n other of has) has.more);
    }
      where
        of_order : (p : Object) (n : ℕ) (other : Item) → IsOf kind p other → HasMoreColumns new most n other → (object_cmp o p ≡ Less) ⊎ (object_cmp o p ≡ Equal) → (other ≡ wide.0) ⊎ (item_cmp wide.0 other ≡ Less)
        of_order p n other of has (inl less) = inr (of_cmp kind o p wide.0 other wide.1 of ∙ less)
        of_order p n other of has (inr equal) = inl (sym (one_by_key new is.new_order wide.0 other wide.2.within has.within (of_cmp kind o p wide.0 other wide.1 of ∙ equal)))

        later : (p : Object) (n : ℕ) (other : Item) → IsOf kind p other → HasMoreColumns new most n other → (y : Item) × Contains come y × IsColumnOf p y → (other ≡ wide.0) ⊎ (item_cmp wide.0 other ≡ Less)
        later p n other of has y =
            let k = y.1.0 in
            let column : IsColumnOf p (get_or come k y.0) = subst (IsColumnOf p) (sym y.1.2) y.2 in
            let mine : IsColumnOf o (get_or come at y.0) = subst (IsColumnOf o) (here ∙ get_or_default come at x y.0 within) (column_has x o own) in
            elim (cases_lt k at) [
              | inl before ↦ absurd (none k before y.0 p column new is n (other, of, has))
              | inr from ↦ elim (cases_eq k at) [
                | inl e ↦
                    let same = one_table (get_or come at y.0) o p mine (subst (λ m. IsColumnOf p (get_or come m y.0)) e column) in
                    of_order p n other of has (inr (subst (λ z. object_cmp o z ≡ Equal) same (object_itself o)))
                | inr apart ↦ of_order p n other of has (columns_rise o p (get_or come at y.0) (get_or come k y.0) mine column (is.coming_order at k y.0 (omega (arith, from, apart)) y.1.1))
              ]
            ]

-- ---- base tables come before views

pub least_is_table : (c : List Item) (most count : ℕ) → IsFirstWide BaseTable c most count → IsLeastWide c most count
least_is_table c most count first = record {
  table = first.table;
  is = first.is;
  least = λ n other h. elim (which_kind h.table other h.named) [
    | inl of ↦ first.least h.table n other of h
    | inr of ↦ inr (tables_first first.name h.table first.table other first.of of)
  ];
}

pub least_is_view : (c : List Item) (most count : ℕ) → ((o : Object) (n : ℕ) → IsWideAs BaseTable o c most n → ⊥) → IsFirstWide View c most count → IsLeastWide c most count
least_is_view c most count none first = record {
  table = first.table;
  is = first.is;
  least = λ n other h. elim (which_kind h.table other h.named) [
    | inl of ↦ absurd (none h.table n (other, of, h))
    | inr of ↦ first.least h.table n other of h
  ];
}

pub none_is_wide : (c : List Item) (most : ℕ) → ((o : Object) (n : ℕ) → IsWideAs BaseTable o c most n → ⊥) → ((o : Object) (n : ℕ) → IsWideAs View o c most n → ⊥) → IsNarrow c most
none_is_wide c most no_table no_view n x h =
    elim (which_kind h.table x h.named) [
      | inl of ↦ no_table h.table n (x, of, h)
      | inr of ↦ no_view h.table n (x, of, h)
    ]

-- a range that has places has an item that is so
pub range_has : (c : List Item) (from to : ℕ) (P : Item → Type 0) → IsRange c from to P → (from < to) ↔ Has c P
range_has c from to P range = (
  λ some.
      let d : Item = item.User [] in
      let x : Item = get_or c from d in
      (x, Contains-get_or c from d (omega (arith, some, range.within)), range.inside from d (omega arith) some),
  λ h.
      let between = range.outside h.1.0 h.0 h.1.1 (subst P (sym h.1.2) h.2) in
      omega (arith, between.0, between.1),
)

-- ---- whether a base table or a view stands after a change

module _ (kind : TableKind) (o : Object) where
  pub stands_by : (c new : List Item) (change : Change) → IsChange c new change → Has change.coming.items (IsOf kind o) ⊎ (Has c (IsOf kind o) × (¬ (Has change.leaving.items (IsOf kind o)))) → Has new (IsOf kind o)
  stands_by c new change is (inl comes) = (comes.0, (is.members comes.0).1 (inr comes.1), comes.2)
  stands_by c new change is (inr stays) = let x = stays.0 in (x.0, (is.members x.0).1 (inl (x.1, λ h. stays.1 (x.0, h, x.2))), x.2)

  pub stood_by : (c new : List Item) (change : Change) → IsInOrder c → IsChange c new change → Has new (IsOf kind o) → Has change.coming.items (IsOf kind o) ⊎ (Has c (IsOf kind o) × (¬ (Has change.leaving.items (IsOf kind o))))
  stood_by c new change order is x =
      elim ((is.members x.0).0 x.1) [
        | inl stays ↦ inr ((x.0, stays.0, x.2), λ y. stays.1 (subst (Contains change.leaving.items) (one_by_key c order y.0 x.0 (is.leaving y.0 y.1) stays.0 (one_of kind o y.0 x.0 y.2 x.2)) y.1))
        | inr comes ↦ inl (x.0, comes, x.2)
      ]

-- what a test that found nothing tells, and when it does
pub told_not : (found : Bool) → not found ≡ true → found ≡ true → ⊥
told_not true e f = false≢true e
told_not false e f = false≢true f

pub not_told : (found : Bool) → (found ≡ true → ⊥) → not found ≡ true
not_told true never = absurd (never refl)
not_told false never = refl

-- ---- one table or view

pub wide_as : (kind : TableKind) (o : Object) (c : List Item) (most count : ℕ) → Has c (IsOf kind o) → HasColumnCount c o count → most < count → IsWideAs kind o c most count
wide_as kind o c most count x has many = (x.0, x.2, record { table = o; within = x.1; named = named_by kind o x.0 x.2; columns = has; more = many })

pub wide_count : (kind : TableKind) (o : Object) (c : List Item) (most n count : ℕ) → IsWideAs kind o c most n → HasColumnCount c o count → count ≤ most → ⊥
wide_count kind o c most n count wide has few = not_wide c most count wide.0 o (named_by kind o wide.0 wide.1) has few (n, wide.2)

-- ---- results

pub some_more : {T : Type 0} (r : Option T) (P Q : T → Type 0) → ((v : T) → P v → Q v) → IfSome r P → IfSome r Q
some_more None P Q f h = h
some_more (Some v) P Q f h = f v h

pub none_more : {T P Q : Type 0} (r : Option T) → (P → Q) → IfNone r P → IfNone r Q
none_more None f h = f h
none_more (Some v) f h = h

-- ---- columns as a part of a list

pub column_part : (c : List Item) (o : Object) (from to : ℕ) → IsInOrder c → IsRange c from to (IsColumnOf o) → HasColumnCount c o (length (take (to - from) (drop from c)))
column_part c o from to order range =
    subst (HasColumnCount c o) (sym (length-take-le (to - from) (drop from c) (omega (arith, length-drop from c, range.ordered, range.within)))) (column_range c o from to order range)
