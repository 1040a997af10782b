-- Lists without repeats: each of whose items is in another is no longer, and sums to no more.
use Rattle.std.proofs.Common.{◌≡◌, ◌⊎◌, inl, inr, ℕ, suc, ◌+◌, ◌≤◌, List, [], ◌∷◌, ◌++◌, length, sym, refl, subst, ap, ◌∙◌, arith}
use Rattle.std.specs.Prelude.{◌≢◌, ◌*◌, map}
use Rattle.std.specs.List.{AllPairs, Contains, flat_map, sum_by}
use Rattle.std.proofs.lemmas.List.{length-append}
use Rattle.std.proofs.lemmas.List.Elements.{Contains-append_cases}
use Rattle.std.proofs.lemmas.List.Sums.{sum_by-cons}
use Rattle.finite_chains.specs.Chains.{IsWithin}
use Rattle.finite_chains.proofs.Members.{Contains-nil, Contains-head, Contains-tail, Contains-cases}

-- ---- members

pub at_head : {X : Type 0} (a b : X) (xs : List X) → a ≡ b → Contains (a ∷ xs) b
at_head a b xs e = subst (Contains (a ∷ xs)) e (Contains-head a xs)

pub at_second : {X : Type 0} (z a b : X) (xs : List X) → a ≡ b → Contains (z ∷ a ∷ xs) b
at_second z a b xs e = Contains-tail z (a ∷ xs) b (at_head a b xs e)

pub Contains-map : {X Y : Type 0} (f : X → Y) (xs : List X) (x : X) → Contains xs x → Contains (map f xs) (f x)
Contains-map f [] x h = absurd (Contains-nil x h)
Contains-map f (z ∷ xs) x h =
    elim (Contains-cases z xs x h) [
      | inl e ↦ at_head (f z) (f x) (map f xs) (ap f e)
      | inr later ↦ Contains-tail (f z) (map f xs) (f x) (Contains-map f xs x later)
    ]

pub Contains-from_map : {X Y : Type 0} (f : X → Y) (xs : List X) (y : Y) → Contains (map f xs) y → (x : X) × Contains xs x × (f x ≡ y)
Contains-from_map f [] y h = absurd (Contains-nil y h)
Contains-from_map f (z ∷ xs) y h =
    elim (Contains-cases (f z) (map f xs) y h) [
      | inl e ↦ (z, Contains-head z xs, e)
      | inr later ↦ let rest = Contains-from_map f xs y later in (rest.0, Contains-tail z xs rest.0 rest.1, rest.2)
    ]

pub Contains-from_flat_map : {X Y : Type 0} (f : X → List Y) (xs : List X) (y : Y) → Contains (flat_map f xs) y → (x : X) × Contains xs x × Contains (f x) y
Contains-from_flat_map f [] y h = absurd (Contains-nil y h)
Contains-from_flat_map f (z ∷ xs) y h =
    elim (Contains-append_cases (f z) (flat_map f xs) y h) [
      | inl first ↦ (z, Contains-head z xs, first)
      | inr later ↦ let rest = Contains-from_flat_map f xs y later in (rest.0, Contains-tail z xs rest.0 rest.1, rest.2)
    ]

-- a product of two lists is as long as the product of their lengths
pub length-each : {X Y : Type 0} (f : X → List Y) (n : ℕ) (xs : List X) → ((x : X) → length (f x) ≡ n) → length (flat_map f xs) ≡ length xs * n
length-each f n [] each = omega arith
length-each f n (x ∷ xs) each = omega (arith, length-append (f x) (flat_map f xs), each x, length-each f n xs each)

pub length-at_most : {X Y : Type 0} (f : X → List Y) (n : ℕ) (xs : List X) → ((x : X) → length (f x) ≤ n) → length (flat_map f xs) ≤ length xs * n
length-at_most f n [] each = omega arith
length-at_most f n (x ∷ xs) each = omega (arith, length-append (f x) (flat_map f xs), each x, length-at_most f n xs each)

pub sum_of_map : {X Y : Type 0} (f : X → Y) (cost : Y → ℕ) (xs : List X) → sum_by cost (map f xs) ≡ sum_by (λ x. cost (f x)) xs
sum_of_map f cost [] = refl
sum_of_map f cost (x ∷ xs) = omega (arith, sum_of_map f cost xs, sum_by-cons cost (f x) (map f xs), sum_by-cons (λ y. cost (f y)) x xs)

-- ---- lists without repeats

-- no item comes again later, by recursion on the list
abbrev pub IsOnce : {X : Type 0} → List X → Type 0
IsOnce [] = Unit {0}
IsOnce (x ∷ xs) = (Contains xs x → ⊥) × IsOnce xs

pub once : {X : Type 0} (xs : List X) → AllPairs (λ a b. a ≢ b) xs → IsOnce xs
once [] d = tt
once (x ∷ xs) d = (
  λ h. d 0 (suc h.0) x (omega arith) (omega (arith, h.1)) (sym h.2),
  once xs (λ i j e low high. d (suc i) (suc j) e (omega (arith, low)) (omega (arith, high))),
)

pub once_map : {X Y : Type 0} (f : X → Y) (xs : List X) → ((a b : X) → f a ≡ f b → a ≡ b) → IsOnce xs → IsOnce (map f xs)
once_map f [] one o = tt
once_map {X} {Y} f (x ∷ xs) one o = (
  λ h. let same = Contains-from_map f xs (f x) h in o.0 (subst (Contains xs) (one same.0 x same.2) same.1),
  once_map f xs one o.1,
)

pub once_append : {X : Type 0} (xs ys : List X) → IsOnce xs → IsOnce ys → ((x : X) → Contains xs x → Contains ys x → ⊥) → IsOnce (xs ++ ys)
once_append [] ys o p apart = p
once_append (x ∷ xs) ys o p apart = (
  λ h. elim (Contains-append_cases xs ys x h) [ inl left ↦ o.0 left | inr right ↦ apart x (Contains-head x xs) right ],
  once_append xs ys o.1 p (λ y left right. apart y (Contains-tail x xs y left) right),
)

-- all of a list but one of its items
without_one : {X : Type 0} (ys : List X) (x : X) → Contains ys x
    → (zs : List X) × (length ys ≡ suc (length zs)) × ((f : X → ℕ) → sum_by f ys ≡ f x + sum_by f zs) × ((y : X) → Contains ys y → (x ≡ y) ⊎ Contains zs y) × IsWithin zs ys
without_one [] x h = absurd (Contains-nil x h)
without_one {X} (z ∷ ys) x h =
    elim (Contains-cases z ys x h) [
      | inl e ↦ (
        ys,
        refl,
        λ f. sum_by-cons f z ys ∙ ap (λ w. f w + sum_by f ys) e,
        λ y hy. elim (Contains-cases z ys y hy) [ inl e2 ↦ inl (sym e ∙ e2) | inr later ↦ inr later ],
        λ y hy. Contains-tail z ys y hy,
      )
      | inr later ↦ (
          let rest = without_one ys x later in (
            z ∷ rest.0,
            ap suc rest.1,
            λ f. omega (arith, sum_by-cons f z ys, sum_by-cons f z rest.0, rest.2 f),
            λ y hy. elim (Contains-cases z ys y hy) [
              | inl e ↦ inr (subst (λ w. Contains (z ∷ rest.0) w) e (Contains-head z rest.0))
              | inr below ↦ (elim (rest.3 y below) [ inl e ↦ inl e | inr there ↦ inr (Contains-tail z rest.0 y there) ])
            ],
            λ y hy. elim (Contains-cases z rest.0 y hy) [ inl e ↦ subst (Contains (z ∷ ys)) e (Contains-head z ys) | inr below ↦ Contains-tail z ys y (rest.4 y below) ],
          ))
    ]

left : {X : Type 0} (x : X) (xs ys zs : List X) → IsOnce (x ∷ xs) → IsWithin (x ∷ xs) ys → ((y : X) → Contains ys y → (x ≡ y) ⊎ Contains zs y) → IsWithin xs zs
left x xs ys zs o w rest y hy = elim (rest y (w y (Contains-tail x xs y hy))) [ inl e ↦ absurd (o.0 (subst (Contains xs) (sym e) hy)) | inr there ↦ there ]

pub no_longer : {X : Type 0} (xs ys : List X) → IsOnce xs → IsWithin xs ys → length xs ≤ length ys
no_longer [] ys o w = omega arith
no_longer {X} (x ∷ xs) ys o w =
    let rest = without_one ys x (w x (Contains-head x xs)) in
    omega (arith, no_longer xs rest.0 o.1 (left x xs ys rest.0 o w rest.3), rest.1)

pub no_more : {X : Type 0} (f : X → ℕ) (xs ys : List X) → IsOnce xs → IsWithin xs ys → sum_by f xs ≤ sum_by f ys
no_more f [] ys o w = omega arith
no_more {X} f (x ∷ xs) ys o w =
    let rest = without_one ys x (w x (Contains-head x xs)) in
    omega (arith, no_more f xs rest.0 o.1 (left x xs ys rest.0 o w rest.3), rest.2 f, sum_by-cons f x xs)

-- what is left of a list without another's items, and how it sums up with them
pub remainder : {X : Type 0} (xs ys : List X) → IsOnce xs → IsWithin xs ys → (rest : List X) × ((f : X → ℕ) → sum_by f ys ≡ sum_by f xs + sum_by f rest) × IsWithin rest ys
remainder [] ys o w = (ys, λ f. omega arith, λ y h. h)
remainder {X} (x ∷ xs) ys o w =
    let one = without_one ys x (w x (Contains-head x xs)) in
    let more = remainder xs one.0 o.1 (left x xs ys one.0 o w one.3) in
    (more.0, λ f. omega (arith, one.2 f, more.1 f, sum_by-cons f x xs), λ y h. one.4 y (more.2 y h))
