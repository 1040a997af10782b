-- The items at marked places.
use Rattle.std.specs.Prelude.{◌≡◌, ℕ, Bool, true, cond, false, List, [], ◌∷◌, Option, Some, None, length, slice_index_or, ◌<◌}

-- in the order of the list
abbrev pub marked : {X : Type 0} → List X → List Bool → List X
marked [] marks = []
marked (x ∷ xs) [] = []
marked (x ∷ xs) (m ∷ marks) = cond m (x ∷ marked xs marks) (marked xs marks)

-- those at marked places, or all where there are no marks
abbrev pub counted : {X : Type 0} → List X → Option (List Bool) → List X
counted xs None = xs
counted xs (Some marks) = marked xs marks

-- whether the item at a place counts
abbrev pub counts : Option (List Bool) → ℕ → Bool
counts None k = true
counts (Some marks) k = slice_index_or marks k false

-- one mark for each of so many places, or none at all
abbrev pub AreMarksOf : ℕ → Option (List Bool) → Type 0
AreMarksOf n None = Unit {0}
AreMarksOf n (Some marks) = length marks ≡ n

-- a place that has a mark, where there are marks
abbrev pub HasMark : ℕ → Option (List Bool) → Type 0
HasMark k None = Unit {0}
HasMark k (Some marks) = k < length marks
