-- Columns and checks that are put back, one after the other.
use Rattle.std.proofs.Common.{◌≡◌, ◌⊎◌, ◌↔◌, inl, inr, ℕ, ◌<◌, ◌≤◌, ◌+◌, List, [], ◌∷◌, ◌++◌, Some, None, Ok, Err, OnOk, length, take, get_or, refl, ap, sym, subst, ◌∙◌, arith}
use Rattle.std.specs.List.{Contains}
use Rattle.std.specs.declared.cmp.Ordering.TheVariants.{Less, Equal}
use Rattle.std.specs.declared.result.Result.{Result}
use Rattle.std.proofs.lemmas.Bool.{cases_lt}
use Rattle.std.proofs.lemmas.List.{get_or_default, take_more, take_all}
use Rattle.std.proofs.lemmas.List.Elements.{Contains-append_left, Contains-get_or, Contains-push, Contains-push_cases}
use Rattle.finite_chains.proofs.Members.{Contains-nil}
use Rattle.sql_names.specs.declared.object.Object.{Object}
use Rattle.cat_items.specs.declared.item.Check.{Check}
use Rattle.cat_items.specs.declared.item.Column.{Column}
use Rattle.cat_items.specs.declared.item.Domain.{Domain}
use Rattle.cat_items.specs.declared.item.Item.{Item}
use Rattle.cat_items.specs.declared.item.Item.TheVariants as item
use Rattle.cat_items.specs.Catalogues.{IsInOrder}
use Rattle.cat_items.specs.Order.{item_cmp, kind_of, key_cmp}
use Rattle.cat_items.specs.Ranges.{IsDomainOf, IsRange}
use Rattle.cat_items.specs.Reach.{Has}
use Rattle.cat_items.proofs.KeyLemmas.{same_key}
use Rattle.cat_items.proofs.Rising.{fact_from_take}
use Rattle.edit_laws.proofs.KeysAndNames.{column_by_key, kind_and_key, object_by_key, turned}
use Rattle.edit_rules.specs.Chosen.{AreAll, AreChosen}
use Rattle.domain_drop.specs.CheckCopies.{HaveOwnNames}
use Rattle.domain_drop.specs.Drops.{IsPutBack}
use Rattle.domain_drop.specs.FreedColumns.{IsFreed, freed}
use Rattle.domain_drop.specs.Lists.{IsAmong, IsFreedAmong, IsFreedAt, IsFreedOf}

-- ---- lists

-- the members before the next place
pub next_members : {X : Type 0} (xs : List X) (i : ℕ) (x : X) → i < length xs → x ≡ get_or xs i x → (z : X) → Contains (take (i + 1) xs) z ↔ (Contains (take i xs) z ⊎ (x ≡ z))
next_members {X} xs i x low is z =
    let grown : take (i + 1) xs ≡ take i xs ++ x ∷ [] = take_more xs i x low ∙ ap (λ y. take i xs ++ y ∷ []) (sym is) in (
      λ h. Contains-push_cases (take i xs) x z (subst (λ l. Contains l z) grown h),
      λ h. subst (λ l. Contains l z) (sym grown) (elim h [
        | inl before ↦ Contains-append_left (take i xs) (x ∷ []) z before
        | inr e ↦ subst (λ y. Contains (take i xs ++ x ∷ []) y) e (Contains-push (take i xs) x)
      ]),
    )

-- a list in order has one item of each key
module _ (items : List Item) (order : IsInOrder items) where
  member_is : (z d : Item) (m : Contains items z) → get_or items m.0 d ≡ z
  member_is z d m = get_or_default items m.0 d z m.1 ∙ m.2

  not_below : (x y : Item) (h : Contains items x) (k : Contains items y) → item_cmp x y ≡ Equal → h.0 < k.0 → ⊥
  not_below x y h k e less =
      let there : item_cmp x y ≡ Less = subst (λ a. item_cmp a y ≡ Less) (member_is x x h) (subst (λ b. item_cmp (get_or items h.0 x) b ≡ Less) (member_is y x k) (order h.0 k.0 x less k.1)) in
      cc

  pub one_by_key : (x y : Item) → Contains items x → Contains items y → item_cmp x y ≡ Equal → x ≡ y
  one_by_key x y h k e = by (cases_lt h.0 k.0) (cases_lt k.0 h.0)
    where
      by : (h.0 < k.0) ⊎ (k.0 ≤ h.0) → (k.0 < h.0) ⊎ (h.0 ≤ k.0) → x ≡ y
      by (inl less) other = absurd (not_below x y h k e less)
      by (inr low) (inl less) = absurd (not_below y x k h (turned x y e) less)
      by (inr low) (inr high) = let same : h.0 ≡ k.0 = omega (arith, low, high) in sym (member_is x x h) ∙ ap (λ n. get_or items n x) same ∙ member_is y x k

  -- the items before a place come before the one that is there
  pub before_it : (i : ℕ) (x : Item) → i < length items → x ≡ get_or items i x → (y : Item) → Contains (take i items) y → item_cmp y x ≡ Less
  before_it i x low is =
      fact_from_take (λ y. item_cmp y x ≡ Less) items i (omega (arith, low))
      (λ k d below. subst (λ z. item_cmp (get_or items k d) z ≡ Less) (get_or_default items i d x low ∙ sym is) (order k i d below low))

-- ---- columns

-- an item with the key of a column is one of its table and place
pub column_with_key : (y : Item) (z : Column) → item_cmp y (item.Column z) ≡ Equal → (w : Column) × (y ≡ item.Column w) × (w.table ≡ z.table) × (w.place ≡ z.place)
column_with_key y z e = let both = kind_and_key (item.Column z) y (turned y (item.Column z) e) in column_by_key z y both.0 both.1

pub same_column_key : (w z : Column) → w.table ≡ z.table → w.place ≡ z.place → item_cmp (item.Column w) (item.Column z) ≡ Equal
same_column_key w z t p =
    let m : Column = record w { table = z.table; place = z.place } in
    let is : w ≡ m = λ i. record w { table = t i; place = p i } in
    subst (λ (a : Column). item_cmp (item.Column a) (item.Column z) ≡ Equal) (sym is) (same_key (item.Column z))

-- what has the key of a freed column has that of the column
pub key_of_freed : (column x : Column) (d : Domain) (y : Item) → x ≡ freed column d → item_cmp y (item.Column x) ≡ Equal → item_cmp y (item.Column column) ≡ Equal
key_of_freed column x d y is e =
    let w = column_with_key y x e in
    subst (λ z. item_cmp z (item.Column column) ≡ Equal) (sym w.1) (same_column_key w.0 column (w.2 ∙ ap (λ (a : Column). a.table) is) (w.3 ∙ ap (λ (a : Column). a.place) is))

-- nothing has the key of a freed column where nothing has that of the column
pub freed_is_new : (old : List Item) (column x : Column) (d : Domain) → x ≡ freed column d → ((y : Item) → Contains old y → item_cmp y (item.Column column) ≡ Equal → ⊥) → (y : Item) → Contains old y → item_cmp y (item.Column x) ≡ Equal → y ≡ item.Column x
freed_is_new old column x d is none y h e = absurd (none y h (key_of_freed column x d y is e))

-- a column without a domain, or whose domain doesn't stand, isn't freed
pub not_based : (c : List Item) (column : Column) → column.domain ≡ None → (y : Item) → IsFreedOf c column y → ⊥
not_based c column none (item.Column x) h = let odd : Some h.0.domain ≡ None = sym h.2 ∙ none in cc
not_based c column none y h = h

pub same_name : (a b : Object) → Some a ≡ Some b → a ≡ b
same_name a b e = cc

pub not_standing : (c : List Item) (column : Column) (o : Object) → column.domain ≡ Some o → ¬ (Has c (IsDomainOf o)) → (y : Item) → IsFreedOf c column y → ⊥
not_standing c column o based none (item.Column x) h = none (item.Domain h.0, h.1, same_name h.0.domain o (sym h.2 ∙ based))
not_standing c column o based none y h = h

same_domain : (a b : Domain) → item.Domain a ≡ item.Domain b → a ≡ b
same_domain a b e = cc

-- domains of one name are one
pub one_domain : (c : List Item) → IsInOrder c → (m d : Domain) → Contains c (item.Domain m) → Contains c (item.Domain d) → m.domain ≡ d.domain → m ≡ d
one_domain c order m d h k same =
    let n : Domain = record m { domain = d.domain } in
    let moved : m ≡ n = λ i. record m { domain = same i } in
    let key : item_cmp (item.Domain m) (item.Domain d) ≡ Equal = subst (λ (a : Domain). item_cmp (item.Domain a) (item.Domain d) ≡ Equal) (sym moved) (same_key (item.Domain d)) in
    same_domain m d (one_by_key c order (item.Domain m) (item.Domain d) h k key)

-- where the domain stands, the freed column is one
pub freed_is : (c : List Item) → IsInOrder c → (column : Column) (o : Object) (d : Domain) (x : Column) → column.domain ≡ Some o → Contains c (item.Domain d) → d.domain ≡ o → x ≡ freed column d → (y : Item) → (y ≡ item.Column x) ↔ IsFreedOf c column y
freed_is c order column o d x based stands named is y = ((λ e. subst (IsFreedOf c column) (sym e) (d, stands, based ∙ ap Some (sym named), is)), from y)
  where
    one : (m : Domain) → Contains c (item.Domain m) → column.domain ≡ Some m.domain → m ≡ d
    one m h e = one_domain c order m d h stands (same_name m.domain d.domain (sym e ∙ based ∙ ap Some (sym named)))

    from : (y : Item) → IsFreedOf c column y → y ≡ item.Column x
    from (item.Column z) h = ap item.Column (h.3 ∙ ap (λ (m : Domain). freed column m) (one h.0 h.1 h.2) ∙ sym is)
    from y h = absurd h

-- ---- the domain of a name

pub none_in_range : (items : List Item) (from to : ℕ) (P : Item → Type 0) → IsRange items from to P → to ≤ from → ¬ (Has items P)
none_in_range items from to P range none h =
    let there = range.outside h.1.0 h.0 h.1.1 (subst P (sym h.1.2) h.2) in
    omega (arith, none, there.0, there.1)

pub found_domain : (items shown : List Item) (from to : ℕ) (o : Object) (x : Item) (d : Domain) → shown ≡ items → IsRange items from to (IsDomainOf o) → from < to → x ≡ get_or shown from x → x ≡ item.Domain d → Contains items (item.Domain d) × (d.domain ≡ o)
found_domain items shown from to o x d same range some is here =
    let at_from : x ≡ get_or items from x = subst (λ l. x ≡ get_or l from x) same is in
    let named : IsDomainOf o x = subst (IsDomainOf o) (sym at_from) (range.inside from x (omega arith) some) in
    (subst (Contains items) here (from, omega (arith, some, range.within), sym at_from), subst (IsDomainOf o) here named)

not_domain : (o : Object) (x : Item) → ((d : Domain) → x ≡ item.Domain d → ⊥) → IsDomainOf o x → ⊥
not_domain o (item.Domain d) not is = not d refl
not_domain o x not is = is

pub always_domain : (items shown : List Item) (from to : ℕ) (o : Object) (x : Item) → shown ≡ items → IsRange items from to (IsDomainOf o) → from < to → x ≡ get_or shown from x → ((d : Domain) → x ≡ item.Domain d → ⊥) → ⊥
always_domain items shown from to o x same range some is not =
    let at_from : x ≡ get_or items from x = subst (λ l. x ≡ get_or l from x) same is in
    not_domain o x not (subst (IsDomainOf o) (sym at_from) (range.inside from x (omega arith) some))

-- ---- one after the other

pub on_ok : {T E : Type 0} (r : Result T E) (P Q : Type 0) → (P → Q) → OnOk r P → OnOk r Q
on_ok (Ok v) P Q f h = f h
on_ok (Err e) P Q f h = tt

-- an item that has been put in is one of these
pub put_as : (old new : List Item) (x : Item) (P : Item → Type 0) → ((y : Item) → (y ≡ x) ↔ P y) → ((y : Item) → Contains new y ↔ (Contains old y ⊎ (y ≡ x))) → (y : Item) → Contains new y ↔ (Contains old y ⊎ P y)
put_as old new x P same members y = (
  λ h. elim ((members y).0 h) [ inl was ↦ inl was | inr e ↦ inr ((same y).0 e) ],
  λ h. (members y).1 (elim h [ inl was ↦ inl was | inr p ↦ inr ((same y).1 p) ]),
)

-- nothing has been put in, and there was nothing to
pub none_put : (old : List Item) (P : Item → Type 0) → ((y : Item) → P y → ⊥) → (y : Item) → Contains old y ↔ (Contains old y ⊎ P y)
none_put old P none y = (λ h. inl h, λ h. elim h [ inl was ↦ was | inr p ↦ absurd (none y p) ])

-- what is no column isn't freed
pub not_column : (c : List Item) (x : Item) → ((z : Column) → x ≡ item.Column z → ⊥) → (y : Item) → IsFreedAt c x y → ⊥
not_column c (item.Column z) not y f = not z refl
not_column c x not y f = f

pub none_freed : (c columns added : List Item) → added ≡ [] → columns ≡ [] → (y : Item) → Contains added y ↔ IsFreedAmong c columns y
none_freed c columns added empty none y = (
  λ h. absurd (Contains-nil y (subst (λ l. Contains l y) empty h)),
  λ h. absurd (Contains-nil h.0 (subst (λ l. Contains l h.0) none h.1)),
)

pub freed_more : (c columns old new : List Item) (i : ℕ) (x : Item) → i < length columns → x ≡ get_or columns i x → ((y : Item) → Contains old y ↔ IsFreedAmong c (take i columns) y) → ((y : Item) → Contains new y ↔ (Contains old y ⊎ IsFreedAt c x y))
    → (y : Item) → Contains new y ↔ IsFreedAmong c (take (i + 1) columns) y
freed_more c columns old new i x low is before step y = (
  λ h. elim ((step y).0 h) [
    | inl was ↦ let of = (before y).0 was in (of.0, (next_members columns i x low is of.0).1 (inl of.1), of.2)
    | inr here ↦ (x, (next_members columns i x low is x).1 (inr refl), here)
  ],
  λ h. (step y).1 (elim ((next_members columns i x low is h.0).0 h.1) [
    | inl earlier ↦ inl ((before y).1 (h.0, earlier, h.2))
    | inr e ↦ inr (subst (λ z. IsFreedAt c z y) (sym e) h.2)
  ]),
)

pub freed_all : (c columns added : List Item) (i : ℕ) → length columns ≤ i → ((y : Item) → Contains added y ↔ IsFreedAmong c (take i columns) y) → (y : Item) → Contains added y ↔ IsFreedAmong c columns y
freed_all c columns added i all members y = subst (λ l. Contains added y ↔ IsFreedAmong c l y) (take_all i columns all) (members y)

-- a freed column has the key of its column
at_key : (c : List Item) (x y z : Item) → IsFreedAt c x y → item_cmp y z ≡ Equal → item_cmp x z ≡ Equal
at_key c (item.Column old) (item.Column n) z f e = turned z (item.Column old) (key_of_freed old n f.0 z f.3 (turned (item.Column n) z e))
at_key c (item.Column old) y z f e = absurd f
at_key c x y z f e = absurd f

-- none of the columns that have been put in has the key of the next
pub next_is_new : (c columns added : List Item) (i : ℕ) (x : Item) → IsInOrder columns → i < length columns → x ≡ get_or columns i x → ((y : Item) → Contains added y ↔ IsFreedAmong c (take i columns) y) → (y : Item) → Contains added y → item_cmp y x ≡ Equal → ⊥
next_is_new c columns added i x order low is members y h e =
    let of = (members y).0 h in
    let less : item_cmp of.0 x ≡ Less = before_it columns order i x low is of.0 of.1 in
    let same : item_cmp of.0 x ≡ Equal = at_key c of.0 y x of.2 e in
    cc

-- ---- checks

check_by_key : (x : Check) (y : Item) → 11 ≡ kind_of y → key_cmp (item.Check x) y ≡ Equal → (z : Check) × (y ≡ item.Check z) × (z.name ≡ x.name)
check_by_key x (item.Check z) k e = (z, refl, sym (object_by_key x.name z.name e))
check_by_key x y k e = absurd (omega (arith, k))

check_with_key : (y : Item) (x : Check) → item_cmp y (item.Check x) ≡ Equal → (z : Check) × (y ≡ item.Check z) × (z.name ≡ x.name)
check_with_key y x e = let both = kind_and_key (item.Check x) y (turned y (item.Check x) e) in check_by_key x y both.0 both.1

pub none_among : (old added : List Item) (copies : List Check) → added ≡ old → copies ≡ [] → (y : Item) → Contains added y ↔ (Contains old y ⊎ IsAmong copies y)
none_among old added copies same none y = (λ h. inl (subst (λ l. Contains l y) same h), λ h. elim h [ inl was ↦ subst (λ l. Contains l y) (sym same) was | inr among ↦ absurd (nothing y among) ])
  where
    nothing : (y : Item) → IsAmong copies y → ⊥
    nothing (item.Check x) h = Contains-nil x (subst (λ (l : List Check). Contains l x) none h)
    nothing y h = h

-- one more check
pub among_more : (begin old new : List Item) (copies : List Check) (i : ℕ) (x : Check) → i < length copies → x ≡ get_or copies i x → ((y : Item) → Contains old y ↔ (Contains begin y ⊎ IsAmong (take i copies) y))
    → ((y : Item) → Contains new y ↔ (Contains old y ⊎ (y ≡ item.Check x))) → (y : Item) → Contains new y ↔ (Contains begin y ⊎ IsAmong (take (i + 1) copies) y)
among_more begin old new copies i x low is before step y = (
  λ h. elim ((step y).0 h) [
    | inl was ↦ elim ((before y).0 was) [ inl first ↦ inl first | inr among ↦ inr (wider y among) ]
    | inr e ↦ inr (subst (IsAmong (take (i + 1) copies)) (sym e) ((next_members copies i x low is x).1 (inr refl)))
  ],
  λ h. (step y).1 (elim h [ inl first ↦ inl ((before y).1 (inl first)) | inr among ↦ narrower y among ]),
)
  where
    wider : (y : Item) → IsAmong (take i copies) y → IsAmong (take (i + 1) copies) y
    wider (item.Check z) h = (next_members copies i x low is z).1 (inl h)
    wider y h = h

    narrower : (y : Item) → IsAmong (take (i + 1) copies) y → Contains old y ⊎ (y ≡ item.Check x)
    narrower (item.Check z) h = elim ((next_members copies i x low is z).0 h) [ inl earlier ↦ inl ((before (item.Check z)).1 (inr earlier)) | inr e ↦ inr (ap item.Check (sym e)) ]
    narrower y h = absurd h

pub among_all : (begin added : List Item) (copies : List Check) (i : ℕ) → length copies ≤ i → ((y : Item) → Contains added y ↔ (Contains begin y ⊎ IsAmong (take i copies) y)) → (y : Item) → Contains added y ↔ (Contains begin y ⊎ IsAmong copies y)
among_all begin added copies i all members y = subst (λ (l : List Check). Contains added y ↔ (Contains begin y ⊎ IsAmong l y)) (take_all i copies all) (members y)

member_at : {X : Type 0} (xs : List X) (i : ℕ) (x : X) → i < length xs → x ≡ get_or xs i x → Contains xs x
member_at xs i x low is = (i, low, sym is)

within : {X : Type 0} (xs : List X) (i : ℕ) → i ≤ length xs → (x : X) → Contains (take i xs) x → Contains xs x
within xs i low = fact_from_take (Contains xs) xs i low (λ k d below. Contains-get_or xs k d (omega (arith, below, low)))

-- the next check is new, or has been put in
pub next_check : (begin added : List Item) (copies : List Check) (i : ℕ) (x : Check) → HaveOwnNames copies → ((z : Check) → ¬ (Contains begin (item.Check z))) → i < length copies → x ≡ get_or copies i x
    → ((y : Item) → Contains added y ↔ (Contains begin y ⊎ IsAmong (take i copies) y)) → (y : Item) → Contains added y → item_cmp y (item.Check x) ≡ Equal → y ≡ item.Check x
next_check begin added copies i x differ none low is members y h e =
    let of = check_with_key y x e in
    of.1 ∙ ap item.Check (by of.0 of.2 ((members (item.Check of.0)).0 (subst (Contains added) of.1 h)))
  where
    by : (z : Check) → z.name ≡ x.name → Contains begin (item.Check z) ⊎ IsAmong (take i copies) (item.Check z) → z ≡ x
    by z same (inl was) = absurd (none z was)
    by z same (inr among) = differ z x (within copies i (omega (arith, low)) z among) (member_at copies i x low is) same

-- ---- all of them

pub all_put : (c columns mid new out : List Item) (copies : List Check) → out ≡ new → ((y : Item) → Contains mid y ↔ IsFreedAmong c columns y) → ((y : Item) → Contains new y ↔ (Contains mid y ⊎ IsAmong copies y)) → (y : Item) → Contains out y ↔ (IsFreedAmong c columns y ⊎ IsAmong copies y)
all_put c columns mid new out copies goes first later y = (
  λ h. elim ((later y).0 (subst (λ l. Contains l y) goes h)) [ inl was ↦ inl ((first y).0 was) | inr among ↦ inr among ],
  λ h. subst (λ l. Contains l y) (sym goes) ((later y).1 (elim h [ inl among ↦ inl ((first y).1 among) | inr copy ↦ inr copy ])),
)

-- no check is a freed column
pub no_check : (c columns added : List Item) → ((y : Item) → Contains added y ↔ IsFreedAmong c columns y) → (x : Check) → ¬ (Contains added (item.Check x))
no_check c columns added members x h = let of = (members (item.Check x)).0 h in by of.0 of.2
  where
    by : (a : Item) → IsFreedAt c a (item.Check x) → ⊥
    by (item.Column old) f = f
    by a f = f

-- what is put back is the freed columns and the copies
pub put_back_is : (c changed added : List Item) (copies : List Check) (Frees : Column → Type 0) → AreChosen c (IsFreed Frees) changed → IsInOrder added → ((y : Item) → Contains added y ↔ (IsFreedAmong c changed y ⊎ IsAmong copies y)) → AreAll (IsPutBack c Frees copies) added
put_back_is c changed added copies Frees chosen order members = record { order = order; members = λ y. (λ h. to y ((members y).0 h), λ h. (members y).1 (from y h)) }
  where
    column : (a : Item) (y : Item) → Contains changed a → IsFreedAt c a y → IsPutBack c Frees copies y
    column (item.Column old) (item.Column x) h f = let of = (chosen.members (item.Column old)).0 h in (old, of.0, of.1, f)
    column (item.Column old) y h f = absurd f
    column a y h f = absurd f

    check : (y : Item) → IsAmong copies y → IsPutBack c Frees copies y
    check (item.Check x) h = h
    check y h = absurd h

    to : (y : Item) → IsFreedAmong c changed y ⊎ IsAmong copies y → IsPutBack c Frees copies y
    to y (inl f) = column f.0 y f.1 f.2
    to y (inr among) = check y among

    from : (y : Item) → IsPutBack c Frees copies y → IsFreedAmong c changed y ⊎ IsAmong copies y
    from (item.Column x) h = inl (item.Column h.0, (chosen.members (item.Column h.0)).1 (h.1, h.2), h.3)
    from (item.Check x) h = inr h
    from y h = absurd h
