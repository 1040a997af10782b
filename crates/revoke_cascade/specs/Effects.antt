-- What an edit does beyond what it says, by its suspects and by what was found of them.
use Rattle.std.specs.Prelude.{List}
use Rattle.std.specs.List.{Contains}
use Rattle.cat_items.specs.declared.edit.Edit.{Edit}
use Rattle.cat_items.specs.declared.item.Item.{Item}
use Rattle.edit_rules.specs.Chosen.{AreChosen}

-- of these old items those that the edit leaves and that weren't found
abbrev pub AreLostOf : List Item → Edit → List Item → List Item → Type 0
AreLostOf old edit found lost = AreChosen old (λ x. (¬ (Contains edit.target x)) × (¬ (Contains edit.changed x)) × (¬ (Contains found x))) lost

-- of these suspects those that were found, and are neither old nor added
abbrev pub AreGainedOf : List Item → List Item → Edit → List Item → List Item → Type 0
AreGainedOf suspects old edit found gained = AreChosen suspects (λ x. Contains found x × (¬ (Contains old x)) × (¬ (Contains edit.added x))) gained
