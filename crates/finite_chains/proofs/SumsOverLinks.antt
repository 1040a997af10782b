-- Sums over links, from either end.
use Rattle.std.proofs.Common.{◌≡◌, ℕ, zero, suc, ◌+◌, ◌<◌, ◌≤◌, true, false, List, [], ◌∷◌, eqb, sym, ap, refl, inl, inr, arith, eq-eqb}
use Rattle.std.specs.List.{Contains, sum_by}
use Rattle.std.proofs.lemmas.Bool.{cases_eq, ne_eqb}
use Rattle.std.proofs.lemmas.List.Sums.{sum_by-cons}
use Rattle.finite_chains.specs.LinkSums.{sum_below, hit, hits}
use Rattle.finite_chains.proofs.Members.{Contains-head, Contains-tail}

sum_below-plus : (g h : ℕ → ℕ) (n : ℕ) → sum_below (λ x. g x + h x) n ≡ sum_below g n + sum_below h n
sum_below-plus g h zero = refl
sum_below-plus g h (suc n) = omega (arith, sum_below-plus g h n)

sum_below-same : (g h : ℕ → ℕ) (n : ℕ) → ((x : ℕ) → x < n → g x ≡ h x) → sum_below g n ≡ sum_below h n
sum_below-same g h zero e = refl
sum_below-same g h (suc n) e = omega (arith, sum_below-same g h n (λ x low. e x (omega (arith, low))), e n (omega arith))

no_hit : (f : ℕ → ℕ) (a n : ℕ) → n ≤ a → sum_below (λ x. hit f x a) n ≡ 0
no_hit f a zero low = refl
no_hit f a (suc n) low =
    let other : eqb n a ≡ false = ne_eqb n a (λ e. omega (arith, e, low)) in
    let z : hit f n a ≡ 0 = rw other refl in
    omega (arith, no_hit f a n (omega (arith, low)), z)

one_hit : (f : ℕ → ℕ) (a n : ℕ) → a < n → sum_below (λ x. hit f x a) n ≡ f a
one_hit f a zero low = absurd (omega (arith, low))
one_hit f a (suc n) low =
    elim (cases_eq n a) [
      | inl e ↦
          let same : eqb n a ≡ true = eq-eqb n a e in
          let z : hit f n a ≡ f n = rw same refl in
          omega (arith, no_hit f a n (omega (arith, e)), z, ap f e)
      | inr ne ↦
          let other : eqb n a ≡ false = ne_eqb n a ne in
          let z : hit f n a ≡ 0 = rw other refl in
          omega (arith, one_hit f a n (omega (arith, low, ne)), z)
    ]

-- a sum over a list of numbers below n is one over the numbers
pub sum_by-hits : (f : ℕ → ℕ) (n : ℕ) (l : List ℕ) → ((a : ℕ) → Contains l a → a < n) → sum_by f l ≡ sum_below (hits f l) n
sum_by-hits f n [] low = sym (none n)
  where
    none : (n : ℕ) → sum_below (hits f []) n ≡ 0
    none zero = refl
    none (suc n) = omega (arith, none n)
sum_by-hits f n (a ∷ l) low =
    let rest = sum_by-hits f n l (λ b h. low b (Contains-tail a l b h)) in
    let head = one_hit f a n (low a (Contains-head a l)) in
    let parts = sum_below-plus (λ x. hit f x a) (hits f l) n in
    let same = sum_below-same (hits f (a ∷ l)) (λ x. hit f x a + hits f l x) n (λ x _. sum_by-cons (hit f x) a l) in
    omega (arith, rest, head, parts, same, sum_by-cons f a l)

-- The sum over all links y → x of f x, from the side of x: for each x, what it counts over all y.
pub sum_links : (f : ℕ → ℕ) (dep : ℕ → List ℕ) (n : ℕ) (ys : List ℕ) → ((y a : ℕ) → Contains ys y → Contains (dep y) a → a < n) → sum_by (λ y. sum_by f (dep y)) ys ≡ sum_below (λ x. sum_by (λ y. hits f (dep y) x) ys) n
sum_links f dep n [] low = sym (none n)
  where
    none : (n : ℕ) → sum_below (λ x. sum_by (λ y. hits f (dep y) x) []) n ≡ 0
    none zero = refl
    none (suc n) = omega (arith, none n)
sum_links f dep n (y ∷ ys) low =
    let rest = sum_links f dep n ys (λ z a h. low z a (Contains-tail y ys z h)) in
    let head = sum_by-hits f n (dep y) (λ a h. low y a (Contains-head y ys) h) in
    let parts = sum_below-plus (hits f (dep y)) (λ x. sum_by (λ z. hits f (dep z) x) ys) n in
    let same = sum_below-same (λ x. sum_by (λ z. hits f (dep z) x) (y ∷ ys)) (λ x. hits f (dep y) x + sum_by (λ z. hits f (dep z) x) ys) n
    (λ x _. sum_by-cons (λ z. hits f (dep z) x) y ys) in
    omega (arith, rest, head, parts, same, sum_by-cons (λ z. sum_by f (dep z)) y ys)
