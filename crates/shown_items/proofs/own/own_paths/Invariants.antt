use Rattle.std.proofs.Common.{take}
use Rattle.own_places.specs.Places.{places_at}
use Rattle.shown_items.proofs.Owned.{HasAll}
use Rattle.shown_items.proofs.own.own_paths.Given as goal

-- the places of the authorizations so far
abbrev pub invariant-loop-auth : goal.invariant-loop-auth
invariant-loop-auth l = HasAll (places_at l.places) (take l.auth-index l.auth-items) l.own.items
