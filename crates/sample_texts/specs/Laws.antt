-- Known numbers.
use Rattle.std.specs.Prelude.{◌≡◌, [], ◌∷◌, map}
use Rattle.sample_texts.specs.Draws.{value, later}

-- the first five that are drawn from the seed 1
abbrev pub FirstOfSeedOne : Type 0
FirstOfSeedOne = map (λ k. value (later k 1)) (1 ∷ 2 ∷ 3 ∷ 4 ∷ 5 ∷ []) ≡ 16838 ∷ 5758 ∷ 10113 ∷ 17515 ∷ 31051 ∷ []
