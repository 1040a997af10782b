-- Sums over the ends of links.
use Rattle.std.specs.Prelude.{ℕ, zero, suc, ◌+◌, cond, List, nat_eq}
use Rattle.std.specs.List.{sum_by}

-- the sum below n
abbrev pub sum_below : (ℕ → ℕ) → ℕ → ℕ
sum_below g zero = 0
sum_below g (suc n) = sum_below g n + g n

-- what x counts for a: f x if it is a
abbrev pub hit : (ℕ → ℕ) → ℕ → ℕ → ℕ
hit f x a = cond (nat_eq x a) (f x) 0

-- what x counts for all of a list
abbrev pub hits : (ℕ → ℕ) → List ℕ → ℕ → ℕ
hits f l x = sum_by (hit f x) l
