-- Links of which an end may be a key that comes in, by its place among those that do.
use Rattle.std.specs.Prelude.{ℕ, ◌<◌, List, map, slice_index}
use Rattle.item_index.specs.Graphs.{Graph}
use Rattle.item_index.specs.Undo.{numbers_given, removed_all}
use Rattle.graph_changes.specs.declared.ends.End.{End}
use Rattle.graph_changes.specs.declared.ends.End.TheVariants.{Stays, Comes}

-- the number that an end stands for, where these numbers are given in turn
abbrev pub number_of : List ℕ → End → ℕ
number_of given (Stays n) = n
number_of given (Comes place) = slice_index given place

abbrev pub link_of : List ℕ → End × End → ℕ × ℕ
link_of given l = (number_of given l.0, number_of given l.1)

-- the links between numbers, where these go out and then these keys come in
abbrev pub links_of : {K : Type 0} → Graph K → List ℕ → List K → List (End × End) → List (ℕ × ℕ)
links_of g out keys links = map (link_of (numbers_given (removed_all g out) keys)) links

-- of so many keys that come in, the end is one, if it comes in
abbrev pub IsPlaced : ℕ → End → Type 0
IsPlaced count (Stays n) = Unit {0}
IsPlaced count (Comes place) = place < count

abbrev pub ArePlaced : ℕ → End × End → Type 0
ArePlaced count l = IsPlaced count l.0 × IsPlaced count l.1
