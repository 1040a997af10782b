-- A view and its columns, which are put in one after the other.
use Rattle.std.proofs.Common.{◌≡◌, ◌⊎◌, ◌↔◌, inl, inr, ℕ, zero, suc, ◌+◌, ◌<◌, ◌≤◌, List, [], ◌∷◌, ◌++◌, Some, length, get_or, take, ap, sym, subst, refl, ◌∙◌, arith}
use Rattle.std.specs.List.{Contains, slice_get}
use Rattle.std.specs.declared.cmp.Ordering.TheVariants.{Equal}
use Rattle.std.proofs.lemmas.List.{length-take-le, take_all, take_more}
use Rattle.std.proofs.lemmas.Option.{slice_get_within}
use Rattle.finite_chains.proofs.Members.{Contains-nil}
use Rattle.sql_names.specs.NameBytes.{NameBytes}
use Rattle.sql_names.specs.declared.object.Object.{Object}
use Rattle.sql_names.specs.declared.sort.SqlType.{SqlType}
use Rattle.cat_items.specs.declared.item.Column.{Column}
use Rattle.cat_items.specs.declared.item.View.{View}
use Rattle.cat_items.specs.declared.item.Item.{Item}
use Rattle.cat_items.specs.declared.item.Item.TheVariants as item
use Rattle.cat_items.specs.Order.{item_cmp}
use Rattle.edit_laws.proofs.KeysAndNames.{column_by_key, kind_and_key, turned}
use Rattle.object_edits.specs.CreatedViews.{IsColumnMade, column_of}
use Rattle.object_edits.specs.ViewSteps.{IsAmong, IsColumnAmong}

-- what is so has been put into a list, and nothing else
abbrev pub Grows : List Item → List Item → (Item → Type 0) → Type 0
Grows old new P = (x : Item) → Contains new x ↔ (Contains old x ⊎ P x)

grows_more : (old mid new : List Item) (P Q R : Item → Type 0) → Grows old mid P → Grows mid new Q → ((x : Item) → R x ↔ (P x ⊎ Q x)) → Grows old new R
grows_more old mid new P Q R first second both x = (to, from)
  where
    to : Contains new x → Contains old x ⊎ R x
    to h = elim ((second x).0 h) [
      | inl m ↦ elim ((first x).0 m) [ inl was ↦ inl was | inr p ↦ inr ((both x).1 (inl p)) ]
      | inr q ↦ inr ((both x).1 (inr q))
    ]

    from : Contains old x ⊎ R x → Contains new x
    from (inl was) = (second x).1 (inl ((first x).1 (inl was)))
    from (inr r) = elim ((both x).0 r) [ inl p ↦ (second x).1 (inl ((first x).1 (inr p))) | inr q ↦ (second x).1 (inr q) ]

-- a column of a later place has a key of its own
pub column_is_new : (old : List Item) (x : Column) → ((z : Column) → Contains old (item.Column z) → z.place < x.place) → (y : Item) → Contains old y → item_cmp y (item.Column x) ≡ Equal → y ≡ item.Column x
column_is_new old x before y h e =
    let both = kind_and_key (item.Column x) y (turned y (item.Column x) e) in
    let found = column_by_key x y both.0 both.1 in
    let earlier : found.0.place < x.place = before found.0 (subst (Contains old) found.1 h) in
    absurd (omega (arith, earlier, found.3))

-- ---- lists with one more at the end

module _ {X : Type 0} where
  slice_get_left : (xs ys : List X) (i : ℕ) (x : X) → slice_get xs i ≡ Some x → slice_get (xs ++ ys) i ≡ Some x
  slice_get_left [] ys i x e = absurd (let odd : slice_get [] i ≡ Some x = e in cc)
  slice_get_left (z ∷ xs) ys zero x e = e
  slice_get_left (z ∷ xs) ys (suc i) x e = slice_get_left xs ys i x e

  slice_get_last : (xs : List X) (x : X) → slice_get (xs ++ x ∷ []) (length xs) ≡ Some x
  slice_get_last [] x = refl
  slice_get_last (z ∷ xs) x = slice_get_last xs x

  slice_get_cases : (xs : List X) (y : X) (i : ℕ) (x : X) → slice_get (xs ++ y ∷ []) i ≡ Some x → (slice_get xs i ≡ Some x) ⊎ ((i ≡ length xs) × (y ≡ x))
  slice_get_cases [] y zero x e = inr (refl, let is : Some y ≡ Some x = e in cc)
  slice_get_cases [] y (suc i) x e = absurd (let odd : slice_get [] i ≡ Some x = e in cc)
  slice_get_cases (z ∷ xs) y zero x e = inl e
  slice_get_cases (z ∷ xs) y (suc i) x e = elim (slice_get_cases xs y i x e) [ inl h ↦ inl h | inr h ↦ inr (omega (arith, h.0), h.1) ]

-- ---- columns

column_fields : (view : Object) (a b : NameBytes) (s t : SqlType) (i j : ℕ) → a ≡ b → s ≡ t → i ≡ j → column_of view a s i ≡ column_of view b t j
column_fields view a b s t i j n k p = λ z. column_of view (n z) (k z) (p z)

module _ (view : Object) (names : List NameBytes) (sorts : List SqlType) (n : NameBytes) (s : SqlType) (count : length names ≡ length sorts) where
  abbrev Last : Column
  Last = column_of view n s (length names + 1)

  made_cases : (x : Column) → IsColumnMade view (names ++ n ∷ []) (sorts ++ s ∷ []) x → IsColumnMade view names sorts x ⊎ (x ≡ Last)
  made_cases x p = by (slice_get_cases names n p.before p.name p.name_is) (slice_get_cases sorts s p.before p.sort p.sort_is)
    where
      by : (slice_get names p.before ≡ Some p.name) ⊎ ((p.before ≡ length names) × (n ≡ p.name)) → (slice_get sorts p.before ≡ Some p.sort) ⊎ ((p.before ≡ length sorts) × (s ≡ p.sort)) → IsColumnMade view names sorts x ⊎ (x ≡ Last)
      by (inl a) (inl b) = inl (record { before = p.before; name = p.name; sort = p.sort; name_is = a; sort_is = b; is = p.is })
      by (inl a) (inr b) = absurd (omega (arith, slice_get_within names p.before p.name a, b.0, count))
      by (inr a) (inl b) = absurd (omega (arith, slice_get_within sorts p.before p.sort b, a.0, count))
      by (inr a) (inr b) = inr (p.is ∙ column_fields view p.name n p.sort s (p.before + 1) (length names + 1) (sym a.1) (sym b.1) (ap (λ k. k + 1) a.0))

  old_made : (x : Column) → IsColumnMade view names sorts x → IsColumnMade view (names ++ n ∷ []) (sorts ++ s ∷ []) x
  old_made x p = record {
    before = p.before;
    name = p.name;
    sort = p.sort;
    name_is = slice_get_left names (n ∷ []) p.before p.name p.name_is;
    sort_is = slice_get_left sorts (s ∷ []) p.before p.sort p.sort_is;
    is = p.is;
  }

  last_made : (x : Column) → x ≡ Last → IsColumnMade view (names ++ n ∷ []) (sorts ++ s ∷ []) x
  last_made x e = record {
    before = length names;
    name = n;
    sort = s;
    name_is = slice_get_last names n;
    sort_is = subst (λ k. slice_get (sorts ++ s ∷ []) k ≡ Some s) (sym count) (slice_get_last sorts s);
    is = e;
  }

  one_more : (x : Item) → IsColumnAmong view (names ++ n ∷ []) (sorts ++ s ∷ []) x ↔ (IsColumnAmong view names sorts x ⊎ (x ≡ item.Column Last))
  one_more (item.Column x) = (
    λ h. elim (made_cases x h) [ inl p ↦ inl p | inr e ↦ inr (ap item.Column e) ],
    λ h. elim h [ inl p ↦ old_made x p | inr e ↦ last_made x (cc) ],
  )
  one_more _ = (λ h. absurd h, λ h. elim h [ inl p ↦ p | inr e ↦ cc ])

-- no column has been put in
none_among : (view : Object) (x : Item) → ¬ (IsColumnAmong view [] [] x)
none_among view (item.Column x) p = let odd : slice_get [] p.before ≡ Some p.name = p.name_is in cc
none_among view _ p = p

pub columns_begin : (view : Object) (names : List NameBytes) (sorts : List SqlType) (items : List Item) → Grows items items (IsColumnAmong view (take 0 names) (take 0 sorts))
columns_begin view names sorts items x = (λ h. inl h, λ h. elim h [ inl m ↦ m | inr p ↦ absurd (none_among view x p) ])

module _ (view : Object) (names : List NameBytes) (sorts : List SqlType) (i : ℕ) where
  -- one column more
  pub columns_more : (n : NameBytes) (s : SqlType) → i < length names → n ≡ get_or names i n → i < length sorts → s ≡ get_or sorts i s → (old mid new : List Item) → Grows old mid (IsColumnAmong view (take i names) (take i sorts))
      → Grows mid new (λ x. x ≡ item.Column (column_of view n s (i + 1))) → Grows old new (IsColumnAmong view (take (i + 1) names) (take (i + 1) sorts))
  columns_more n s low is below sort_is old mid new first second =
      let a : length (take i names) ≡ i = length-take-le i names (omega (arith, low)) in
      let b : length (take i sorts) ≡ i = length-take-le i sorts (omega (arith, below)) in
      let more : take i names ++ n ∷ [] ≡ take (i + 1) names = sym (take_more names i n low ∙ ap (λ y. take i names ++ y ∷ []) (sym is)) in
      let others : take i sorts ++ s ∷ [] ≡ take (i + 1) sorts = sym (take_more sorts i s below ∙ ap (λ y. take i sorts ++ y ∷ []) (sym sort_is)) in
      let placed : Grows mid new (λ x. x ≡ item.Column (column_of view n s (length (take i names) + 1))) = subst (λ k. Grows mid new (λ x. x ≡ item.Column (column_of view n s (k + 1)))) (sym a) second in
      let all : Grows old new (IsColumnAmong view (take i names ++ n ∷ []) (take i sorts ++ s ∷ [])) =
      grows_more old mid new (IsColumnAmong view (take i names) (take i sorts)) _ (IsColumnAmong view (take i names ++ n ∷ []) (take i sorts ++ s ∷ [])) first placed (one_more view (take i names) (take i sorts) n s (a ∙ sym b)) in
      subst (λ l. Grows old new (IsColumnAmong view l (take (i + 1) sorts))) more (subst (λ l. Grows old new (IsColumnAmong view (take i names ++ n ∷ []) l)) others all)

  -- those that have been put in have earlier places
  pub places_before : i ≤ length names → (old mid : List Item) → Grows old mid (IsColumnAmong view (take i names) (take i sorts)) → ((x : Column) → ¬ (Contains old (item.Column x))) → (x : Column) → Contains mid (item.Column x) → x.place < i + 1
  places_before low old mid grows none x h = elim ((grows (item.Column x)).0 h) [ inl was ↦ absurd (none x was) | inr p ↦ early p ]
    where
      early : IsColumnMade view (take i names) (take i sorts) x → x.place < i + 1
      early p = omega (arith, slice_get_within (take i names) p.before p.name p.name_is, length-take-le i names low, ap (λ (y : Column). y.place) p.is)

  -- all have been put in
  pub columns_all : length names ≤ i → length names ≡ length sorts → (old new : List Item) → Grows old new (IsColumnAmong view (take i names) (take i sorts)) → Grows old new (IsColumnAmong view names sorts)
  columns_all whole count old new grows =
      subst (λ l. Grows old new (IsColumnAmong view l sorts)) (take_all i names whole) (subst (λ l. Grows old new (IsColumnAmong view (take i names) l)) (take_all i sorts (omega (arith, whole, count))) grows)

-- ---- the view and its columns

module _ (view made : View) (table : Object) (names : List NameBytes) (sorts : List SqlType) (first mid : List Item) (empty : first ≡ []) (is : made ≡ view) (grows : Grows first mid (λ x. x ≡ item.View made)) where
  nothing : (x : Item) → ¬ (Contains first x)
  nothing x h = Contains-nil x (subst (λ l. Contains l x) empty h)

  only_view : (x : Item) → Contains mid x → x ≡ item.View made
  only_view x h = elim ((grows x).0 h) [ inl was ↦ absurd (nothing x was) | inr e ↦ e ]

  pub no_columns_yet : (x : Column) → ¬ (Contains mid (item.Column x))
  no_columns_yet x h = let odd = only_view (item.Column x) h in cc

  pub view_and_columns : (last : List Item) → table ≡ view.view → Grows mid last (IsColumnAmong table names sorts) → (x : Item) → Contains last x ↔ IsAmong view names sorts x
  view_and_columns last named more x = (λ h. to x ((more x).0 h), λ p. (more x).1 (from x p))
    where
      to : (x : Item) → Contains mid x ⊎ IsColumnAmong table names sorts x → IsAmong view names sorts x
      to (item.View v) (inl h) = let same : v ≡ made = (let e = only_view (item.View v) h in cc) in same ∙ is
      to (item.Column x) (inl h) = absurd (no_columns_yet x h)
      to (item.Column x) (inr p) = subst (λ o. IsColumnMade o names sorts x) named p
      to y (inl h) = absurd (let e = only_view y h in cc)
      to y (inr p) = absurd p

      from : (x : Item) → IsAmong view names sorts x → Contains mid x ⊎ IsColumnAmong table names sorts x
      from (item.View v) e = inl ((grows (item.View v)).1 (inr (ap item.View (e ∙ sym is))))
      from (item.Column x) p = inr (subst (λ o. IsColumnMade o names sorts x) (sym named) p)
      from y p = absurd p
