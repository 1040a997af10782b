-- Lists of numbers, each known by its place among them.
use Rattle.std.specs.Prelude.{ℕ, ◌+◌, ◌-◌, not, nat_eq, List, [], ◌∷◌, ◌++◌, remove, slice_set, slice_index_or}
use Rattle.std.specs.List.{count_by, filter}

-- the lists, for how many more numbers there is room in them, and for how many more lists
pub record Shelf : Type 0 where
  pub lists : List (List ℕ)
  pub spare : ℕ
  pub spare_lists : ℕ

-- the list at this place
abbrev pub list_at : List (List ℕ) → ℕ → List ℕ
list_at lists at = slice_index_or lists at []

-- the shelf with a number more at the end of a list
abbrev pub pushed : Shelf → ℕ → ℕ → Shelf
pushed s at x = record s { lists = slice_set s.lists at (list_at s.lists at ++ x ∷ []); spare = s.spare - 1 }

-- the shelf without the number at a place of a list
abbrev pub taken_out : Shelf → ℕ → ℕ → Shelf
taken_out s at k = record s { lists = slice_set s.lists at (remove (list_at s.lists at) k); spare = s.spare + 1 }

-- the shelf with an empty list more
abbrev pub widened : Shelf → Shelf
widened s = record s { lists = s.lists ++ [] ∷ []; spare_lists = s.spare_lists - 1 }

-- how often a number stands in a list
abbrev pub times : ℕ → List ℕ → ℕ
times x xs = count_by (λ y. nat_eq y x) xs

-- a list without each place of a number
abbrev pub without : ℕ → List ℕ → List ℕ
without x xs = filter (λ y. not (nat_eq y x)) xs
