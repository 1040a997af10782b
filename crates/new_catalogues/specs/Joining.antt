-- Lists that can be joined.
use Rattle.std.specs.Prelude.{◌≡◌, ◌⊎◌, ℕ, List}
use Rattle.std.specs.List.{Contains}
use Rattle.std.specs.declared.cmp.Ordering.TheVariants.{Equal}
use Rattle.finite_chains.specs.Chains.{IsWithin}
use Rattle.cat_items.specs.declared.item.Item.{Item}
use Rattle.cat_items.specs.Batch.{HaveNoKeyInCommon}
use Rattle.cat_items.specs.Catalogues.{HasKeyAt}
use Rattle.cat_items.specs.Order.{item_cmp}

-- an item of the one with the key of an item of the other is that item
abbrev pub HaveOneItemAKey : List Item → List Item → Type 0
HaveOneItemAKey a b = (x y : Item) → Contains a x → Contains b y → item_cmp x y ≡ Equal → x ≡ y

-- those of some items whose keys no item of the list has
pub record AreMissing (c items missing : List Item) : Type 0 where
  pub within : IsWithin missing items
  pub new : HaveNoKeyInCommon c missing
  pub others : (x : Item) → Contains items x → Contains missing x ⊎ ((k : ℕ) × HasKeyAt c k x)
