-- What of a whole catalogue an edit doesn't touch, and which rights it makes suspect.
use Rattle.std.specs.Prelude.{◌⊎◌, List}
use Rattle.std.specs.List.{Contains}
use Rattle.cat_items.specs.declared.edit.Edit.{Edit}
use Rattle.cat_items.specs.declared.item.Item.{Item}
use Rattle.cat_items.specs.Survivors.{IsSystemRight}
use Rattle.edit_parts.specs.Touched.{IsLeft}

-- an item of the list that the edit leaves, and that isn't among the touched ones
abbrev pub IsUntouched : List Item → Edit → List Item → Item → Type 0
IsUntouched c edit touched x = Contains c x × IsLeft edit x × (¬ (Contains touched x))

-- a right that the system could grant for the part, and that is among the touched rights, or neither stands in c nor could be granted for it
abbrev pub IsTouchedOrFresh : List Item → List Item → List Item → Item → Type 0
IsTouchedOrFresh c rights part x = IsSystemRight part x × (Contains rights x ⊎ ((¬ (Contains c x)) × (¬ (IsSystemRight c x))))
