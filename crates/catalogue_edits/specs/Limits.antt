-- Refusals by the limits of a catalogue.
use Rattle.std.specs.Prelude.{◌≡◌, ◌<◌, ℕ, List, length}
use Rattle.cat_items.specs.declared.edit.Edit.{Edit}
use Rattle.cat_items.specs.declared.edit.Refusal.{Refusal}
use Rattle.cat_items.specs.declared.edit.Refusal.TheVariants.{CatalogFull}
use Rattle.cat_items.specs.declared.item.Item.{Item}
use Rattle.cat_items.specs.declared.limits.Limits.{Limits}
use Rattle.cat_items.specs.Edits.{IsNew}
use Rattle.new_catalogues.specs.Width.{IsLeastWide}

-- the new catalogue has more items than the limit
abbrev pub too_many_items : Limits → List Item → Edit → Refusal → Type 0
too_many_items limits c edit refusal = (new : List Item) × IsNew c edit new × (limits.items < length new) × (refusal ≡ CatalogFull (length new))

-- a table or a view of it has more columns than the limit; the least such one counts
abbrev pub too_many_columns : Limits → List Item → Edit → Refusal → Type 0
too_many_columns limits c edit refusal = (new : List Item) × IsNew c edit new × ((count : ℕ) × IsLeastWide new limits.columns count × (refusal ≡ CatalogFull count))
