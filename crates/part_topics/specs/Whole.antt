-- A part in which an item has all that it asks for.
use Rattle.std.specs.Prelude.{◌≡◌, Bool, false, true, List}
use Rattle.std.specs.List.{Contains}
use Rattle.cat_items.specs.declared.item.Item.{Item}
use Rattle.cascade_laws.specs.Topics.{Topic, IsUnder}
use Rattle.cascade_laws.specs.Asks.{Asks}

-- the part has each item of c that is no suspect and stands under a topic that x asks for
abbrev pub HasAllFor : List Item → (Item → Bool) → List Item → Item → Type 0
HasAllFor c suspect part x = (y : Item) (t : Topic) → Contains c y → suspect y ≡ false → Asks part x t → IsUnder t y → Contains part y

-- it has all that any of its suspects asks for
abbrev pub IsWholePart : List Item → (Item → Bool) → List Item → Type 0
IsWholePart c suspect part = (x : Item) → Contains part x → suspect x ≡ true → HasAllFor c suspect part x
