-- What goes out of a board with numbers: their links.
use Rattle.std.specs.Prelude.{ℕ, ◌+◌, cond, nat_eq, List, [], ◌∷◌, ◌++◌, length, map}
use Rattle.std.specs.List.{flat_map, list_any}
use Rattle.item_index.specs.Graphs.{Graph}
use Rattle.item_index.specs.Shelves.{list_at}

-- the link to n from m, if m stays where these go out
abbrev pub link_if_stays : List ℕ → ℕ → ℕ → List (ℕ × ℕ)
link_if_stays out m n = cond (list_any (nat_eq m) out) [] ((m, n) ∷ [])

-- what it costs to look up a list of a number: each place, and the end
abbrev pub look_ups : List (List ℕ) → ℕ → ℕ
look_ups lists n = 1 + length (list_at lists n)

module _ {K : Type 0} where
  -- the links that go with n where these go out: those to what it rests on, and those from what rests on it and stays
  abbrev pub links_with : Graph K → List ℕ → ℕ → List (ℕ × ℕ)
  links_with g out n = map (λ m. (n, m)) (list_at g.rests n) ++ flat_map (λ m. link_if_stays out m n) (list_at g.dependents n)

  -- what it costs to look up both lists of a number
  abbrev pub look_ups_with : Graph K → ℕ → ℕ
  look_ups_with g n = look_ups g.rests n + look_ups g.dependents n
