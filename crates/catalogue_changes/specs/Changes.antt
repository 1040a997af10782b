-- What becomes of a catalogue when some items leave and others come.
use Rattle.std.specs.Prelude.{◌≢◌, ◌↔◌, ◌⊎◌, List}
use Rattle.std.specs.List.{Contains}
use Rattle.std.specs.declared.cmp.Ordering.TheVariants.{Equal}
use Rattle.finite_chains.specs.Chains.{IsWithin}
use Rattle.cat_items.specs.declared.item.Item.{Item}
use Rattle.cat_items.specs.Catalogues.{IsInOrder}
use Rattle.cat_items.specs.Order.{item_cmp}
use Rattle.catalogue_changes.specs.declared.change.Change.{Change}

-- the change makes `new` of c
pub record IsChange (c new : List Item) (change : Change) : Type 0 where
  pub leaving_order : IsInOrder change.leaving.items
  pub leaving : IsWithin change.leaving.items c
  pub coming_order : IsInOrder change.coming.items
  pub new_order : IsInOrder new
  pub members : (x : Item) → Contains new x ↔ ((Contains c x × (¬ (Contains change.leaving.items x))) ⊎ Contains change.coming.items x)
  -- no item that stays has the key of one that comes
  pub apart : (x y : Item) → Contains c x → (¬ (Contains change.leaving.items x)) → Contains change.coming.items y → item_cmp x y ≢ Equal
