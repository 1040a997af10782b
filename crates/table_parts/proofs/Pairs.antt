-- Each member of a list with each later one.
use Rattle.std.proofs.Common.{◌≢◌, suc, zero, List, [], ◌∷◌, ◌++◌, map, get_or, ap, subst, inl, inr, arith}
use Rattle.std.specs.List.{AllPairs, Contains}
use Rattle.std.proofs.lemmas.List.Elements.{Contains-append_left, Contains-append_right, Contains-append_cases, Contains-get_or}
use Rattle.finite_chains.proofs.Members.{Contains-nil, Contains-head, Contains-tail, Contains-cases}

-- `AllPairs`, by recursion on the list
abbrev pub WithLater : {X : Type 0} → (X → X → Type 0) → List X → Type 0
WithLater R [] = Unit {0}
WithLater {X} R (x ∷ xs) = ((y : X) → Contains xs y → R x y) × WithLater R xs

pub with_later : {X : Type 0} (R : X → X → Type 0) (xs : List X) → AllPairs R xs → WithLater R xs
with_later R [] pairs = tt
with_later {X} R (x ∷ xs) pairs = (first, with_later R xs (λ i j d low high. pairs (suc i) (suc j) d (omega (arith, low)) (omega (arith, high))))
  where
    first : (y : X) → Contains xs y → R x y
    first y h = subst (λ z. R x z) h.2 (pairs 0 (suc h.0) y (omega arith) (omega (arith, h.1)))

pub all_pairs : {X : Type 0} (R : X → X → Type 0) (xs : List X) → WithLater R xs → AllPairs R xs
all_pairs R [] later i j d low high = absurd (omega (arith, high))
all_pairs R (x ∷ xs) later i zero d low high = absurd (omega (arith, low))
all_pairs R (x ∷ xs) later zero (suc j) d low high = later.0 (get_or xs j d) (Contains-get_or xs j d (omega (arith, high)))
all_pairs R (x ∷ xs) later (suc i) (suc j) d low high = all_pairs R xs later.1 i j d (omega (arith, low)) (omega (arith, high))

-- in two lists, one behind the other
pub later_left : {X : Type 0} (R : X → X → Type 0) (xs ys : List X) → WithLater R (xs ++ ys) → WithLater R xs
later_left R [] ys later = tt
later_left R (x ∷ xs) ys later = (λ y h. later.0 y (Contains-append_left xs ys y h), later_left R xs ys later.1)

pub later_right : {X : Type 0} (R : X → X → Type 0) (xs ys : List X) → WithLater R (xs ++ ys) → WithLater R ys
later_right R [] ys later = later
later_right R (x ∷ xs) ys later = later_right R xs ys later.1

pub later_across : {X : Type 0} (R : X → X → Type 0) (xs ys : List X) (x y : X) → WithLater R (xs ++ ys) → Contains xs x → Contains ys y → R x y
later_across R [] ys x y later h k = absurd (Contains-nil x h)
later_across R (z ∷ xs) ys x y later h k =
    elim (Contains-cases z xs x h) [
      | inl e ↦ subst (λ w. R w y) e (later.0 y (Contains-append_right xs ys y k))
      | inr more ↦ later_across R xs ys x y later.1 more k
    ]

pub later_append : {X : Type 0} (R : X → X → Type 0) (xs ys : List X) → WithLater R xs → WithLater R ys → ((x y : X) → Contains xs x → Contains ys y → R x y) → WithLater R (xs ++ ys)
later_append R [] ys one two across = two
later_append R (x ∷ xs) ys one two across = (
  λ y h. elim (Contains-append_cases xs ys y h) [ inl a ↦ one.0 y a | inr b ↦ across x y (Contains-head x xs) b ],
  later_append R xs ys one.1 two (λ z y h k. across z y (Contains-tail x xs z h) k),
)

-- a list holds what a function gives of a member
pub map_has : {X Y : Type 0} (f : X → Y) (xs : List X) (x : X) → Contains xs x → Contains (map f xs) (f x)
map_has f [] x h = absurd (Contains-nil x h)
map_has {X} {Y} f (z ∷ xs) x h =
    elim (Contains-cases z xs x h) [
      | inl e ↦ subst (λ (w : X). Contains (f z ∷ map f xs) (f w)) e (Contains-head (f z) (map f xs))
      | inr more ↦ Contains-tail (f z) (map f xs) (f x) (map_has f xs x more)
    ]

-- members differ of which a function gives values that do
pub differ_before : {X Y : Type 0} (f : X → Y) (xs : List X) → WithLater (λ a b. a ≢ b) (map f xs) → WithLater (λ a b. a ≢ b) xs
differ_before f [] later = tt
differ_before f (x ∷ xs) later = (λ y h e. later.0 (f y) (map_has f xs y h) (ap f e), differ_before f xs later.1)
