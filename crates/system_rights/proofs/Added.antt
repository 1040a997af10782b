-- Rights put in, one layer after another.
use Rattle.std.proofs.Common.{◌≡◌, ◌↔◌, ◌⊎◌, ℕ, ◌+◌, ◌<◌, ◌≤◌, List, Result, Ok, Err, length, get_or, refl, sym, ◌∙◌, ap, subst, inl, inr, arith}
use Rattle.std.specs.List.{Contains}
use Rattle.std.specs.Result.{OnOk}
use Rattle.std.proofs.lemmas.List.{get_or_default}
use Rattle.std.proofs.lemmas.Bool.{cases_lt}
use Rattle.cat_items.specs.declared.need.Auth.TheVariants.{System, Named}
use Rattle.cat_items.specs.declared.need.Need.{Need}
use Rattle.cat_items.specs.declared.item.Right.{Right}
use Rattle.cat_items.specs.declared.item.Item.{Item}
use Rattle.cat_items.specs.declared.item.Item.TheVariants as item
use Rattle.system_rights.specs.Layers.{IsRightWhere, IsAdded, IsToOwner}

pub on_ok : {T E : Type 0} (r : Result T E) (P Q : Type 0) → (P → Q) → OnOk r P → OnOk r Q
on_ok (Ok x) P Q f h = f h
on_ok (Err e) P Q f h = h

pub where_more : (P Q : Right → Type 0) → ((r : Right) → P r → Q r) → (x : Item) → IsRightWhere P x → IsRightWhere Q x
where_more P Q more (item.Held r) p = more r p
where_more P Q more (item.Grantable r) p = more r p
where_more P Q more x p = absurd p

where_either : (P Q : Right → Type 0) (x : Item) → IsRightWhere (λ r. P r ⊎ Q r) x → IsRightWhere P x ⊎ IsRightWhere Q x
where_either P Q (item.Held r) p = p
where_either P Q (item.Grantable r) p = p
where_either P Q x p = absurd p

nowhere : (P : Right → Type 0) → ((r : Right) → P r → ⊥) → (x : Item) → IsRightWhere P x → ⊥
nowhere P none (item.Held r) p = none r p
nowhere P none (item.Grantable r) p = none r p
nowhere P none x p = p

pub added_none : (l : List Item) (P : Right → Type 0) → ((r : Right) → P r → ⊥) → IsAdded l l P
added_none l P none x = (
  λ c. inl c,
  λ h. elim h [
    | inl c ↦ c
    | inr p ↦ absurd (nowhere P none x p)
  ],
)

pub added_same : (old new : List Item) (P Q : Right → Type 0) → ((r : Right) → P r ↔ Q r) → IsAdded old new P → IsAdded old new Q
added_same old new P Q same h x = (
  λ c. elim ((h x).0 c) [
    | inl o ↦ inl o
    | inr p ↦ inr (where_more P Q (λ r. (same r).0) x p)
  ],
  λ d. elim d [
    | inl o ↦ (h x).1 (inl o)
    | inr q ↦ (h x).1 (inr (where_more Q P (λ r. (same r).1) x q))
  ],
)

pub added_then : (a b c : List Item) (P Q : Right → Type 0) → IsAdded a b P → IsAdded b c Q → IsAdded a c (λ r. P r ⊎ Q r)
added_then a b c P Q first second x = (
  λ h. elim ((second x).0 h) [
    | inl m ↦ elim ((first x).0 m) [
      | inl o ↦ inl o
      | inr p ↦ inr (where_more P (λ r. P r ⊎ Q r) (λ r p. inl p) x p)
    ]
    | inr q ↦ inr (where_more Q (λ r. P r ⊎ Q r) (λ r q. inr q) x q)
  ],
  λ h. elim h [
    | inl o ↦ (second x).1 (inl ((first x).1 (inl o)))
    | inr pq ↦ elim (where_either P Q x pq) [
      | inl p ↦ (second x).1 (inl ((first x).1 (inr p)))
      | inr q ↦ (second x).1 (inr q)
    ]
  ],
)

-- an element at a place from the first to before the second
abbrev pub Among : {X : Type 0} → List X → ℕ → ℕ → X → Type 0
Among xs from at x = (k : ℕ) × (from ≤ k) × (k < at) × (k < length xs) × (get_or xs k x ≡ x)

-- the rights of some of these elements
abbrev pub OfSome : {X : Type 0} → List X → ℕ → ℕ → (X → Right → Type 0) → Right → Type 0
OfSome xs from at R r = (x : _) × Among xs from at x × R x r

pub loop_begin : {X : Type 0} (l : List Item) (xs : List X) (from : ℕ) (R : X → Right → Type 0) → IsAdded l l (OfSome xs from from R)
loop_begin l xs from R = added_none l (OfSome xs from from R) (λ r h. omega (arith, h.1.1, h.1.2))

pub loop_more : {X : Type 0} (old mid new : List Item) (xs : List X) (from at : ℕ) (R : X → Right → Type 0) (y : X) → IsAdded old mid (OfSome xs from at R) → IsAdded mid new (R y) → from ≤ at → at < length xs → y ≡ get_or xs at y
    → IsAdded old new (OfSome xs from (at + 1) R)
loop_more xs_old mid new xs from at R y first second low within is =
    added_same xs_old new (λ r. OfSome xs from at R r ⊎ R y r) (OfSome xs from (at + 1) R) same (added_then xs_old mid new (OfSome xs from at R) (R y) first second)
  where
    same : (r : Right) → (OfSome xs from at R r ⊎ R y r) ↔ OfSome xs from (at + 1) R r
    same r = (
      λ h. elim h [
        | inl earlier ↦ (earlier.0, (earlier.1.0, earlier.1.1, omega (arith, earlier.1.2), earlier.1.3, earlier.1.4), earlier.2)
        | inr now ↦ (y, (at, low, omega arith, within, sym is), now)
      ],
      λ h. elim (cases_lt h.1.0 at) [
        | inl earlier ↦ inl (h.0, (h.1.0, h.1.1, earlier, h.1.3, h.1.4), h.2)
        | inr now ↦
            let here : h.1.0 ≡ at = omega (arith, now, h.1.2) in
            let mine : get_or xs at h.0 ≡ h.0 = subst (λ k. get_or xs k h.0 ≡ h.0) here h.1.4 in
            inr (subst (λ z. R z r) (sym mine ∙ get_or_default xs at h.0 y within ∙ sym is) h.2)
      ],
    )

-- a privilege and its grant option
pub both_added : (old mid new : List Item) (need : Need) (owner : List ℕ) (right : Right) → right ≡ record { need = need; grantor = System; grantee = Named owner }
    → ((x : Item) → Contains mid x ↔ (Contains old x ⊎ (x ≡ item.Held right))) → ((x : Item) → Contains new x ↔ (Contains mid x ⊎ (x ≡ item.Grantable right)))
    → IsAdded old new (IsToOwner owner (λ n. n ≡ need))
both_added old mid new need owner right is first second x = (
  λ h. elim ((second x).0 h) [
    | inl m ↦ elim ((first x).0 m) [
      | inl o ↦ inl o
      | inr e ↦ inr (subst (IsRightWhere P) (sym e) mine)
    ]
    | inr e ↦ inr (subst (IsRightWhere P) (sym e) mine)
  ],
  λ h. elim h [
    | inl o ↦ (second x).1 (inl ((first x).1 (inl o)))
    | inr p ↦ back x p
  ],
)
  where
    P : Right → Type 0
    P = IsToOwner owner (λ n. n ≡ need)

    mine : P right
    mine = subst P (sym is) (refl, refl, refl)

    whole : (r : Right) → P r → r ≡ right
    whole r p = let e : r ≡ record { need = need; grantor = System; grantee = Named owner } = λ i. record { need = p.2 i; grantor = p.0 i; grantee = p.1 i } in e ∙ sym is

    back : (x : Item) → IsRightWhere P x → Contains new x
    back (item.Held r) p = (second (item.Held r)).1 (inl ((first (item.Held r)).1 (inr (ap item.Held (whole r p)))))
    back (item.Grantable r) p = (second (item.Grantable r)).1 (inr (ap item.Grantable (whole r p)))
    back x p = absurd p
