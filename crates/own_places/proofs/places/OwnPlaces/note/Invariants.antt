use Rattle.std.proofs.Common.{take}
use Rattle.own_places.specs.Places.{HasPlaces, Keeps}
use Rattle.own_places.proofs.places.OwnPlaces.note.Given as goal

-- what was listed is listed still, and so are the places of the items so far
abbrev pub invariant-loop-x : goal.invariant-loop-x
invariant-loop-x l = Keeps l.initial.self l.self × HasPlaces (take l.x-index l.items) l.self
