-- RESTRICT: a statement that takes or changes something beyond its target is refused (SQL:2003 part 2, 11.21 and 12.7).
use Rattle.std.specs.Prelude.{◌≡◌, Bool, List, Option, Some, None}
use Rattle.cat_items.specs.declared.edit.Edit.{Edit}
use Rattle.cat_items.specs.declared.edit.Refusal.{Refusal}
use Rattle.cat_items.specs.declared.edit.Refusal.TheVariants.{StillNeeded}
use Rattle.cat_items.specs.declared.item.Item.{Item}
use Rattle.cat_items.specs.Edits.{IsNew}
use Rattle.new_catalogues.specs.Further.{IsLeastFurther}

-- something further depends on the target; the least of it is told
abbrev pub still_needed : List Item → Option Bool → Edit → Refusal → Type 0
still_needed c None edit refusal = ⊥
still_needed c (Some by_rights) edit refusal = (new : List Item) × IsNew c edit new × ((x : Item) × IsLeastFurther c edit new x × (refusal ≡ StillNeeded x by_rights))
