-- Where the rights on an object stand.
use Rattle.std.specs.Prelude.{◌≡◌, List}
use Rattle.sql_names.specs.NameBytes.{PathNames}
use Rattle.sql_names.specs.declared.object.Object.{Object}
use Rattle.cat_items.specs.declared.item.Item.{Item}
use Rattle.cat_items.specs.declared.item.Item.TheVariants.{Held, Grantable}
use Rattle.cat_items.specs.declared.ranges.Part.{Part}
use Rattle.cat_items.specs.Rights.{path_of}
use Rattle.chosen_parts.specs.Parts.{LiesIn}

-- a right on this path, or on a column of it
abbrev pub IsRightAt : PathNames → Item → Type 0
IsRightAt path (Held r) = r.need.on ≡ path
IsRightAt path (Grantable r) = r.need.on ≡ path
IsRightAt path x = ⊥

-- each right on the object is in one of these parts
abbrev pub HoldRightsOn : Object → List Part → Type 0
HoldRightsOn object parts = (x : Item) → IsRightAt (path_of object) x → LiesIn parts x
