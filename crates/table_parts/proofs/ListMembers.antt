-- Members of lists that are made of others, and members that differ pairwise.
use Rattle.std.proofs.Common.{◌≡◌, ◌⊎◌, ℕ, ◌<◌, List, [], ◌∷◌, Option, None, Some, length, get_or, ap, sym, subst, ◌∙◌, inl, inr, arith}
use Rattle.std.specs.List.{AllPairs, Any, Contains, cons_option, filter_map, flat_map, slice_get}
use Rattle.std.proofs.lemmas.Bool.{cases_lt}
use Rattle.std.proofs.lemmas.List.{get_or_default}
use Rattle.std.proofs.lemmas.List.Elements.{Contains-append_left, Contains-append_right, Contains-append_cases}
use Rattle.std.proofs.lemmas.Option.{slice_get_within, get_or_from_slice_get}
use Rattle.finite_chains.proofs.Members.{Contains-nil, Contains-head, Contains-tail, Contains-cases}

-- a member of joined lists is one of a list that a member gives
pub from_flat_map : {X A : Type 0} (f : X → List A) (xs : List X) (y : A) → Contains (flat_map f xs) y → (x : X) × Contains xs x × Contains (f x) y
from_flat_map f [] y h = absurd (Contains-nil y h)
from_flat_map f (x ∷ xs) y h =
    elim (Contains-append_cases (f x) (flat_map f xs) y h) [
      | inl here ↦ (x, Contains-head x xs, here)
      | inr later ↦ let rest = from_flat_map f xs y later in (rest.0, Contains-tail x xs rest.0 rest.1, rest.2)
    ]

-- and the other way round
pub to_flat_map : {X A : Type 0} (f : X → List A) (xs : List X) (x : X) (y : A) → Contains xs x → Contains (f x) y → Contains (flat_map f xs) y
to_flat_map f [] x y h k = absurd (Contains-nil x h)
to_flat_map f (z ∷ xs) x y h k =
    elim (Contains-cases z xs x h) [
      | inl e ↦ Contains-append_left (f z) (flat_map f xs) y (subst (λ w. Contains (f w) y) (sym e) k)
      | inr later ↦ Contains-append_right (f z) (flat_map f xs) y (to_flat_map f xs x y later k)
    ]

cons_cases : {Y : Type 0} (o : Option Y) (ys : List Y) (y : Y) → Contains (cons_option o ys) y → (o ≡ Some y) ⊎ Contains ys y
cons_cases None ys y h = inr h
cons_cases (Some z) ys y h = elim (Contains-cases z ys y h) [ inl e ↦ inl (ap Some e) | inr later ↦ inr later ]

-- what is kept of a member is a member of what is kept
pub from_filter_map : {X Y : Type 0} (h : X → Option Y) (xs : List X) (y : Y) → Contains (filter_map h xs) y → (x : X) × Contains xs x × (h x ≡ Some y)
from_filter_map h [] y c = absurd (Contains-nil y c)
from_filter_map h (x ∷ xs) y c =
    elim (cons_cases (h x) (filter_map h xs) y c) [
      | inl e ↦ (x, Contains-head x xs, e)
      | inr later ↦ let rest = from_filter_map h xs y later in (rest.0, Contains-tail x xs rest.0 rest.1, rest.2)
    ]

-- the only member of a list of one
pub only : {X : Type 0} (x y : X) → Contains (x ∷ []) y → x ≡ y
only x y h = elim (Contains-cases x [] y h) [ inl e ↦ e | inr none ↦ absurd (Contains-nil y none) ]

-- what is at a place is a member
abbrev pub contains_at : {X : Type 0} (xs : List X) (k : ℕ) (x : X) → slice_get xs k ≡ Some x → Contains xs x
contains_at xs k x e = (k, slice_get_within xs k x e, get_or_from_slice_get xs k x x e)

-- what is so of a member is so of some
pub contains_from_any : {X : Type 0} (P : X → Type 0) (xs : List X) → Any P xs → (x : X) × Contains xs x × P x
contains_from_any P xs h = (h.1, (h.0, h.2, h.3), h.4)

pair_at : {X : Type 0} (R : X → X → Type 0) (xs : List X) → AllPairs R xs → (x y : X) (h : Contains xs x) (k : Contains xs y) → h.0 < k.0 → R x y
pair_at R xs pairs x y h k below =
    subst (λ w. R x w) (get_or_default xs k.0 x y k.1 ∙ k.2) (subst (λ w. R w (get_or xs k.0 x)) h.2 (pairs h.0 k.0 x below k.1))

same_place : {X : Type 0} (xs : List X) (x y : X) (h : Contains xs x) (k : Contains xs y) → h.0 ≡ k.0 → x ≡ y
same_place xs x y h k e = sym h.2 ∙ get_or_default xs h.0 x y h.1 ∙ ap (λ i. get_or xs i y) e ∙ k.2

-- two members that aren't so related, in a list whose members are, stand at one place
pub one_place : {X : Type 0} (R : X → X → Type 0) (xs : List X) → AllPairs R xs → (x y : X) (h : Contains xs x) (k : Contains xs y) → (R x y → ⊥) → (R y x → ⊥) → h.0 ≡ k.0
one_place R xs pairs x y h k apart back =
    elim (cases_lt h.0 k.0) [
      | inl below ↦ absurd (apart (pair_at R xs pairs x y h k below))
      | inr high ↦ elim (cases_lt k.0 h.0) [
        | inl above ↦ absurd (back (pair_at R xs pairs y x k h above))
        | inr low ↦ omega (arith, high, low)
      ]
    ]

-- so they are one
pub one_of_pairs : {X : Type 0} (R : X → X → Type 0) (xs : List X) → AllPairs R xs → (x y : X) → Contains xs x → Contains xs y → (R x y → ⊥) → (R y x → ⊥) → x ≡ y
one_of_pairs R xs pairs x y h k apart back = same_place xs x y h k (one_place R xs pairs x y h k apart back)

-- ---- all members before a place

abbrev pub AllBelow : {X : Type 0} → (X → Type 0) → List X → ℕ → Type 0
AllBelow {X} P xs i = (k : ℕ) (d : X) → k < i → P (get_or xs k d)

-- the member at a place
pub member_at : {X : Type 0} (xs : List X) (i : ℕ) (x : X) → i < length xs → x ≡ get_or xs i x → Contains xs x
member_at xs i x within is = (i, within, sym is)
