-- The FROM clauses around a reference, the nearest first.
use Rattle.std.specs.Prelude.{ℕ, List, [], ◌∷◌, ◌++◌, length, slice_get, Option, option_and_then}
use Rattle.name_scopes.specs.declared.frames.Tab.{Tab}
use Rattle.name_scopes.specs.declared.frames.Frame.{Frame}

abbrev pub Frames : Type 0
Frames = List Frame

-- a chain begins: what stands before it can't be seen in its ON conditions
abbrev pub begin : Frames → Frames
begin [] = []
begin (f ∷ fs) = record f { skip = length f.tables } ∷ fs

abbrev pub add : Tab → Frames → Frames
add t [] = []
add t (f ∷ fs) = record f { tables = f.tables ++ t ∷ [] } ∷ fs

-- the whole FROM can be seen
abbrev pub whole : Frames → Frames
whole [] = []
whole (f ∷ fs) = record f { skip = 0 } ∷ fs

abbrev pub empty : Frame
empty = record { skip = 0; tables = [] }

abbrev pub tab_at : Frames → ℕ → ℕ → Option Tab
tab_at s up at = option_and_then (λ (f : Frame). slice_get f.tables at) (slice_get s up)
