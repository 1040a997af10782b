-- What a list contains.
use Rattle.std.proofs.Common.{◌≡◌, ◌⊎◌, Bool, false, true, get_or, List, [], ◌∷◌, subst, refl, inl, inr, arith}
use Rattle.std.specs.List.{Contains, All, filter}
use Rattle.std.proofs.lemmas.Bool.{cond_both, both_ways}
use Rattle.std.proofs.lemmas.List.Elements.{Contains-append_left, Contains-append_right, Contains-append_cases, Contains-get_or, Contains-push_cases}
use Rattle.finite_chains.specs.Chains.{IsWithin}

-- nothing is in the empty list
pub Contains-nil : {X : Type 0} (x : X) → Contains [] x → ⊥
Contains-nil x h = omega (arith, h.1)

pub Contains-head : {X : Type 0} (x : X) (xs : List X) → Contains (x ∷ xs) x
Contains-head x xs = Contains-append_left (x ∷ []) xs x (0, omega arith, refl)

pub Contains-tail : {X : Type 0} (y : X) (xs : List X) (x : X) → Contains xs x → Contains (y ∷ xs) x
Contains-tail y xs x h = Contains-append_right (y ∷ []) xs x h

pub Contains-cases : {X : Type 0} (y : X) (xs : List X) (x : X) → Contains (y ∷ xs) x → (y ≡ x) ⊎ Contains xs x
Contains-cases y xs x h =
    elim (Contains-append_cases (y ∷ []) xs x h) [
      | inl first ↦ elim (Contains-push_cases [] y x first) [ inl none ↦ absurd (Contains-nil x none) | inr e ↦ inl e ]
      | inr later ↦ inr later
    ]

pub IsWithin-refl : {X : Type 0} (s : List X) → IsWithin s s
IsWithin-refl s y h = h

pub IsWithin-trans : {X : Type 0} (s t u : List X) → IsWithin s t → IsWithin t u → IsWithin s u
IsWithin-trans s t u p q y h = q y (p y h)

pub IsWithin-cons : {X : Type 0} (x : X) (s t : List X) → Contains t x → IsWithin s t → IsWithin (x ∷ s) t
IsWithin-cons x s t hx h y hy =
    elim (Contains-cases x s y hy) [
      | inl e ↦ subst (λ z. Contains t z) e hx
      | inr later ↦ h y later
    ]

-- what passes the test stays in the filtered list
pub Contains-filter : {X : Type 0} (p : X → Bool) (xs : List X) (y : X) → Contains xs y → p y ≡ true → Contains (filter p xs) y
Contains-filter p [] y h t = absurd (Contains-nil y h)
Contains-filter p (x ∷ xs) y h t =
    cond_both (p x) (x ∷ filter p xs) (filter p xs) (λ zs. Contains zs y)
    (λ passes. elim (Contains-cases x xs y h) [
      | inl e ↦ subst (λ z. Contains (x ∷ filter p xs) z) e (Contains-head x (filter p xs))
      | inr later ↦ Contains-tail x (filter p xs) y (Contains-filter p xs y later t)
    ])
    (λ fails. elim (Contains-cases x xs y h) [
      | inl e ↦ absurd (both_ways (p y) (subst (λ z. p z ≡ false) e fails) t)
      | inr later ↦ Contains-filter p xs y later t
    ])

-- the filtered list has only items that pass
pub filter_passes_one : {X : Type 0} (p : X → Bool) (xs : List X) (y : X) → Contains (filter p xs) y → Contains xs y × (p y ≡ true)
filter_passes_one p [] y = λ h. absurd (Contains-nil y h)
filter_passes_one {X} p (x ∷ xs) y =
    cond_both (p x) (x ∷ filter p xs) (filter p xs) (λ zs. Contains zs y → Contains (x ∷ xs) y × (p y ≡ true))
    (λ passes h. elim (Contains-cases x (filter p xs) y h) [
      | inl e ↦ (subst (λ z. Contains (x ∷ xs) z) e (Contains-head x xs), subst (λ z. p z ≡ true) e passes)
      | inr later ↦ let r = filter_passes_one p xs y later in (Contains-tail x xs y r.0, r.1)
    ])
    (λ fails h. let r = filter_passes_one p xs y h in (Contains-tail x xs y r.0, r.1))

-- a fact of each item that a list contains is one of the list
pub All-from_contains : {X : Type 0} (P : X → Type 0) (xs : List X) → ((x : X) → Contains xs x → P x) → All P xs
All-from_contains P xs each k d below = each (get_or xs k d) (Contains-get_or xs k d below)
