-- Lists in which each element has a property of its place, element by element.
use Rattle.std.proofs.Common.{◌≡◌, ℕ, zero, suc, ◌+◌, ◌<◌, List, [], ◌∷◌, length, subst, arith}
use Rattle.std.specs.Prelude.{slice_index_or}
use Rattle.catalog_lock.proofs.Rows.{AllFrom}

pub at_place : {A : Type 0} (P : ℕ → A → Type 0) (n : ℕ) (xs : List A) → AllFrom P n xs → (i : ℕ) (d : A) → i < length xs → P (n + i) (slice_index_or xs i d)
at_place P n [] all i d low = absurd (omega (arith, low))
at_place P n (x ∷ xs) all zero d low = let e : n ≡ n + 0 = omega arith in subst (λ k. P k x) e all.0
at_place P n (x ∷ xs) all (suc i) d low =
    let e : n + 1 + i ≡ n + suc i = omega arith in
    subst (λ k. P k (slice_index_or xs i d)) e (at_place P (n + 1) xs all.1 i d (omega (arith, low)))

pub from_places : {A : Type 0} (P : ℕ → A → Type 0) (n : ℕ) (xs : List A) → ((i : ℕ) (d : A) → i < length xs → P (n + i) (slice_index_or xs i d)) → AllFrom P n xs
from_places P n [] each = tt
from_places P n (x ∷ xs) each =
    let e : n + 0 ≡ n = omega arith in (
      subst (λ k. P k x) e (each 0 x (omega arith)),
      from_places P (n + 1) xs (λ i d low. let f : n + suc i ≡ n + 1 + i = omega arith in subst (λ k. P k (slice_index_or xs i d)) f (each (suc i) d (omega (arith, low)))),
    )
