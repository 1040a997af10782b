-- The items of a catalogue and those that are added to it.
use Rattle.std.specs.Prelude.{◌++◌, List}
use Rattle.cat_items.specs.declared.item.Item.{Item}
use Rattle.added_parts.specs.declared.extended.Extended.{Extended}
use Rattle.added_parts.specs.Parts.{PartsStand}

abbrev pub items_of : Extended → List Item
items_of e = e.old.now.items ++ e.added.now.items

-- all that the item names and needs stands in the catalogue or is added
abbrev pub PartsStandIn : Extended → Item → Type 0
PartsStandIn e x = PartsStand e.old.now.items (items_of e) x
