-- The key that REFERENCES means, key by key, and that it is one.
use Rattle.std.proofs.Common.{◌≡◌, ◌≢◌, ◌⊎◌, ◌↔◌, ℕ, ◌+◌, ◌<◌, ◌≤◌, List, [], ◌∷◌, ◌++◌, true, Option, None, Some, length, get_or, take, refl, sym, ◌∙◌, ap, subst, inl, inr, append_assoc}
use Rattle.std.specs.Prelude.{IfNone, IfSome}
use Rattle.std.specs.List.{Contains}
use Rattle.std.specs.Ordering.{ordering_reverse, ordering_then}
use Rattle.std.specs.Cmp.{IsTotalOrder}
use Rattle.std.specs.FinMap.{IsAntisymmetric}
use Rattle.std.specs.declared.cmp.Ordering.{Ordering}
use Rattle.std.specs.declared.cmp.Ordering.TheVariants.{Less, Equal, Greater}
use Rattle.std.proofs.lemmas.List.{take_all, take_more}
use Rattle.std.proofs.lemmas.List.Elements.{Contains-append_cases, Contains-append_right, Contains-push_cases}
use Rattle.finite_chains.proofs.Members.{Contains-cases, Contains-head, Contains-nil, Contains-tail}
use Rattle.sql_names.specs.NameBytes.{NameBytes}
use Rattle.sql_names.specs.Names.{name_cmp-IsAntisymmetric}
use Rattle.sql_names.specs.declared.object.Object.{Object}
use Rattle.sql_names.specs.contracts.object.ObjectOrd.TheImpl.Laws as object_laws
use Rattle.cat_items.specs.declared.item.Key.{Key}
use Rattle.cat_items.specs.Order.{name_cmp, object_cmp}
use Rattle.table_work.specs.Keys.{FitsColumns, IsBefore, IsBound, IsMeant}

-- ---- the columns of a key

pub fits_primary : (columns : List NameBytes) (k : Key) → columns ≡ [] → FitsColumns columns k ↔ (k.primary ≡ true)
fits_primary columns k none = subst (λ (names : List NameBytes). FitsColumns names k ↔ (k.primary ≡ true)) (sym none) (λ h. h, λ h. h)

pub fits_listed : (columns : List NameBytes) (k : Key) → columns ≢ []
    → FitsColumns columns k ↔ (((name : NameBytes) → Contains k.columns name → Contains columns name) × ((name : NameBytes) → Contains columns name → Contains k.columns name))
fits_listed [] k some = absurd (some refl)
fits_listed (column ∷ columns) k some = (λ h. (λ name. (h name).0, λ name. (h name).1), λ h name. (h.0 name, h.1 name))

-- ---- the order of names

pub object_cmp-total : IsTotalOrder object_cmp
object_cmp-total = object_laws.total-law

both_equal : (a b : Ordering) → ordering_then a b ≡ Equal → (a ≡ Equal) × (b ≡ Equal)
both_equal Less b e = absurd (let odd : Less ≡ Equal = e in cc)
both_equal Equal b e = (refl, e)
both_equal Greater b e = absurd (let odd : Greater ≡ Equal = e in cc)

pub object_cmp-is : IsAntisymmetric object_cmp
object_cmp-is a b e =
    let both = both_equal (name_cmp a.schema b.schema) (name_cmp a.name b.name) e in
    let schemas : a.schema ≡ b.schema = name_cmp-IsAntisymmetric a.schema b.schema both.0 in
    let names : a.name ≡ b.name = name_cmp-IsAntisymmetric a.name b.name both.1 in
    λ i. record { schema = schemas i; name = names i }

-- what comes before one that isn't behind another comes before the other
less_than_behind : (a b other : Object) → object_cmp a b ≡ Less → object_cmp other b ≢ Less → object_cmp a other ≡ Less
less_than_behind a b other less behind = by (object_cmp other b) refl
  where
    by : (o : Ordering) → object_cmp other b ≡ o → object_cmp a other ≡ Less
    by Less e = absurd (behind e)
    by Equal e = subst (λ z. object_cmp a z ≡ Less) (sym (object_cmp-is other b e)) less
    by Greater e = object_cmp-total.trans a b other less (object_cmp-total.antisymm b other ∙ ap ordering_reverse e)

-- ---- key by key

grown : (keys : List Key) (i : ℕ) (k : Key) → i < length keys → k ≡ get_or keys i k → take (i + 1) keys ≡ take i keys ++ k ∷ []
grown keys i k within is = take_more keys i k within ∙ ap (λ x. take i keys ++ x ∷ []) (sym is)

-- the key that a shared one at a place is
pub next_key : (keys : List Key) (i : ℕ) (shared k : Key) → shared ≡ get_or keys i shared → k ≡ shared → k ≡ get_or keys i k
next_key keys i shared k is same = subst (λ (x : Key). x ≡ get_or keys i x) (sym same) is

-- the key that is meant of some, or none of them fits
abbrev pub MeansIfAny : List NameBytes → List Key → Option Key → Type 0
MeansIfAny columns keys None = (k : Key) → Contains keys k → FitsColumns columns k → ⊥
MeansIfAny columns keys (Some k) = IsMeant keys columns k

module _ (columns : List NameBytes) where
  abbrev Means : List Key → Option Key → Type 0
  Means keys o = MeansIfAny columns keys o

  pub means_begin : (keys : List Key) → Means (take 0 keys) None
  means_begin keys k h = absurd (Contains-nil k h)

  pub means_all : (keys : List Key) (i : ℕ) (first : Option Key) → length keys ≤ i → Means (take i keys) first → Means keys first
  means_all keys i first all means = subst (λ l. Means l first) (take_all i keys all) means

  -- one more, which isn't meant in place of the first
  kept : (xs : List Key) (k : Key) (first : Option Key) → Means xs first → (FitsColumns columns k → IsBefore k first → ⊥) → Means (xs ++ k ∷ []) first
  kept xs k None none late = λ other h fits.
      elim (Contains-push_cases xs k other h) [
        | inl there ↦ none other there fits
        | inr same ↦ late (subst (FitsColumns columns) (sym same) fits) tt
      ]
  kept xs k (Some f) old late = record {
    before = old.before;
    after = old.after ++ k ∷ [];
    parts = ap (λ l. l ++ k ∷ []) old.parts ∙ append_assoc old.before (f ∷ old.after) (k ∷ []);
    fits = old.fits;
    earlier = old.earlier;
    later = λ other h fits. elim (Contains-push_cases old.after k other h) [
      | inl there ↦ old.later other there fits
      | inr same ↦ λ less. late (subst (FitsColumns columns) (sym same) fits) (subst (λ (z : Key). object_cmp z.name f.name ≡ Less) (sym same) less)
    ];
  }

  pub means_kept : (keys : List Key) (i : ℕ) (k : Key) (first : Option Key) → i < length keys → k ≡ get_or keys i k → Means (take i keys) first
      → (FitsColumns columns k → IsBefore k first → ⊥) → Means (take (i + 1) keys) first
  means_kept keys i k first within is means late = subst (λ l. Means l first) (sym (grown keys i k within is)) (kept (take i keys) k first means late)

  -- one more, which is
  all_later : (xs : List Key) (k : Key) (first : Option Key) → Means xs first → IsBefore k first → (other : Key) → Contains xs other → FitsColumns columns other → object_cmp k.name other.name ≡ Less
  all_later xs k None none first other h fits = absurd (none other h fits)
  all_later xs k (Some f) old less other h fits =
      elim (Contains-append_cases old.before (f ∷ old.after) other (subst (λ l. Contains l other) old.parts h)) [
        | inl early ↦ object_cmp-total.trans k.name f.name other.name less (old.earlier other early fits)
        | inr late ↦ elim (Contains-cases f old.after other late) [
          | inl same ↦ subst (λ (z : Key). object_cmp k.name z.name ≡ Less) same less
          | inr behind ↦ less_than_behind k.name f.name other.name less (old.later other behind fits)
        ]
      ]

  pub means_new : (keys : List Key) (i : ℕ) (k : Key) (first : Option Key) → i < length keys → k ≡ get_or keys i k → Means (take i keys) first
      → FitsColumns columns k → IsBefore k first → Means (take (i + 1) keys) (Some k)
  means_new keys i k first within is means fits early = subst (λ l. Means l (Some k)) (sym (grown keys i k within is)) (record {
    before = take i keys;
    after = [];
    parts = refl;
    fits = fits;
    earlier = all_later (take i keys) k first means early;
    later = λ other h. absurd (Contains-nil other h);
  })

-- ---- what is meant is one of the keys

pub meant_among : (keys : List Key) (columns : List NameBytes) (k : Key) → IsMeant keys columns k → Contains keys k
meant_among keys columns k m = subst (λ l. Contains l k) (sym m.parts) (Contains-append_right m.before (k ∷ m.after) k (Contains-head k m.after))

pub none_meant : (keys : List Key) (columns : List NameBytes) → MeansIfAny columns keys None → (k : Key) → ¬ (IsMeant keys columns k)
none_meant keys columns none k m = none k (meant_among keys columns k m) m.fits

-- two places of a list are one, or one is behind the other
places : {X : Type 0} (before other_before : List X) (x y : X) (after other_after : List X) → before ++ (x ∷ after) ≡ other_before ++ (y ∷ other_after)
    → (x ≡ y) ⊎ ((Contains after y × Contains other_before x) ⊎ (Contains other_after x × Contains before y))
places [] [] x y after other_after e = let same : x ≡ y = cc in inl same
places [] (z ∷ zs) x y after other_after e =
    let head : x ≡ z = cc in
    let rest : after ≡ zs ++ (y ∷ other_after) = cc in
    inr (inl (subst (λ l. Contains l y) (sym rest) (Contains-append_right zs (y ∷ other_after) y (Contains-head y other_after)), subst (λ w. Contains (w ∷ zs) x) head (Contains-head x zs)))
places (z ∷ zs) [] x y after other_after e =
    let head : z ≡ y = cc in
    let rest : zs ++ (x ∷ after) ≡ other_after = cc in
    inr (inr (subst (λ l. Contains l x) rest (Contains-append_right zs (x ∷ after) x (Contains-head x after)), subst (λ w. Contains (w ∷ zs) y) (sym head) (Contains-head y zs)))
places (z ∷ zs) (w ∷ ws) x y after other_after e =
    let rest : zs ++ (x ∷ after) ≡ ws ++ (y ∷ other_after) = cc in
    elim (places zs ws x y after other_after rest) [
      | inl same ↦ inl same
      | inr apart ↦ elim apart [
        | inl first ↦ inr (inl (first.0, Contains-tail w ws x first.1))
        | inr second ↦ inr (inr (second.0, Contains-tail z zs y second.1))
      ]
    ]

-- one key is meant
pub one_meant : (keys : List Key) (columns : List NameBytes) (a b : Key) → IsMeant keys columns a → IsMeant keys columns b → a ≡ b
one_meant keys columns a b p q =
    elim (places p.before q.before a b p.after q.after (sym p.parts ∙ q.parts)) [
      | inl same ↦ same
      | inr apart ↦ elim apart [
        | inl first ↦ absurd (p.later b first.0 q.fits (q.earlier a first.1 p.fits))
        | inr second ↦ absurd (q.later a second.0 p.fits (p.earlier b second.1 q.fits))
      ]
    ]

pub one_bound : (keys : List Key) (columns written : List NameBytes) (a b : Key) → IsBound keys columns written a → IsBound keys columns written b → a ≡ b
one_bound keys columns written a b p q = one_meant keys written a b p.meant q.meant

pub found_is : (keys : List Key) (columns : List NameBytes) (o : Option Key) → MeansIfAny columns keys o → IfSome o (IsMeant keys columns)
found_is keys columns None means = tt
found_is keys columns (Some k) means = means

pub none_is : (keys : List Key) (columns : List NameBytes) (o : Option Key) → MeansIfAny columns keys o → IfNone o ((k : Key) → ¬ (IsMeant keys columns k))
none_is keys columns None means = none_meant keys columns means
none_is keys columns (Some k) means = tt
