-- Marks that join others.
use Rattle.std.specs.Prelude.{◌≡◌, ◌≢◌, ℕ, List, [], ◌∷◌, ◌++◌}
use Rattle.std.specs.List.{AllPairs, Contains}

-- marks of these numbers join others behind them, and all are distinct if these were
pub record Grows (numbers before after : List ℕ) : Type 0 where
  pub more : List ℕ
  pub behind : after ≡ before ++ more
  pub among : (n : ℕ) → Contains more n → Contains numbers n
  pub there : (n : ℕ) → Contains numbers n → Contains after n
  pub once : AllPairs (λ a b. a ≢ b) before → AllPairs (λ a b. a ≢ b) after

-- the mark of one number
abbrev pub Joins : ℕ → List ℕ → List ℕ → Type 0
Joins number before after = Grows (number ∷ []) before after
