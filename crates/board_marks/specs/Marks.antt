-- Marked numbers of a graph.
use Rattle.std.specs.Prelude.{ℕ, List}
use Rattle.std.specs.List.{Contains}
use Rattle.item_index.specs.Graphs.{Graph, HasKey}
use Rattle.item_index.specs.Shelves.{list_at}

-- with each marked number all that rest on it are marked
abbrev pub AreClosed : {K : Type 0} → Graph K → List ℕ → Type 0
AreClosed g marks = (m n : ℕ) → Contains marks n → Contains (list_at g.dependents n) m → Contains marks m

-- the number with the key is marked, if there is one
abbrev pub IsMarked : {K : Type 0} → Graph K → List ℕ → K → Type 0
IsMarked g marks k = (n : ℕ) → HasKey g n k → Contains marks n
