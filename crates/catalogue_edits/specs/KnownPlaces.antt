-- The places of a catalogue, as long as they are known.
use Rattle.std.specs.Prelude.{List, Option, IfSome}
use Rattle.cat_items.specs.declared.item.Item.{Item}
use Rattle.own_places.specs.Places.{HasPlaces}
use Rattle.catalogue_edits.specs.declared.places.KnownPlaces.{KnownPlaces}

-- where places are known, each place of each of these items is listed
abbrev pub KnowsPlaces : List Item → Option KnownPlaces → Type 0
KnowsPlaces c known = IfSome known (λ it. HasPlaces c it.places)
