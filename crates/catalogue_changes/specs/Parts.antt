-- Which items leave, and which of those that an edit adds come.
use Rattle.std.specs.Prelude.{◌≡◌, ◌↔◌, ◌⊎◌, List}
use Rattle.std.specs.List.{Contains}
use Rattle.std.specs.declared.cmp.Ordering.TheVariants.{Equal}
use Rattle.finite_chains.specs.Chains.{IsWithin}
use Rattle.cat_items.specs.declared.edit.Edit.{Edit}
use Rattle.cat_items.specs.declared.item.Item.{Item}
use Rattle.cat_items.specs.Catalogues.{IsInOrder}
use Rattle.cat_items.specs.Order.{item_cmp}

-- the target, what is changed, and what is lost beyond these
pub record AreLeaving (edit : Edit) (lost leaving : List Item) : Type 0 where
  pub order : IsInOrder leaving
  pub members : (x : Item) → Contains leaving x ↔ (Contains edit.target x ⊎ (Contains edit.changed x ⊎ Contains lost x))

-- an item of the catalogue that doesn't leave has the key of x
abbrev pub StaysAs : List Item → List Item → Item → Type 0
StaysAs c leaving x = (y : Item) × Contains c y × (¬ (Contains leaving y)) × (item_cmp y x ≡ Equal)

-- those of the items that don't stay as they are
pub record AreArriving (c leaving items arriving : List Item) : Type 0 where
  pub within : IsWithin arriving items
  pub new : (x : Item) → Contains arriving x → ¬ (StaysAs c leaving x)
  pub others : (x : Item) → Contains items x → Contains arriving x ⊎ StaysAs c leaving x
