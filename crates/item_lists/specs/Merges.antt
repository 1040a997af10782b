-- Lists in order that are merged.
use Rattle.std.specs.Prelude.{◌≡◌, ◌↔◌, ◌⊎◌, List}
use Rattle.std.specs.List.{Contains}
use Rattle.std.specs.declared.cmp.Ordering.TheVariants.{Less, Equal}
use Rattle.cat_items.specs.declared.item.Item.{Item}
use Rattle.cat_items.specs.Catalogues.{IsInOrder}
use Rattle.cat_items.specs.Order.{item_cmp}

-- an item of the one and an item of the other that have one key are the same
abbrev pub AreOneByKey : List Item → List Item → Type 0
AreOneByKey items more = (x y : Item) → Contains items x → Contains more y → item_cmp x y ≡ Equal → x ≡ y

-- in order, the items of the fronts of two lists, all of which come before what is left of these
pub record AreMerged (front rest done later all : List Item) : Type 0 where
  pub order : IsInOrder all
  pub members : (x : Item) → Contains all x ↔ (Contains front x ⊎ Contains done x)
  pub ahead : (x y : Item) → Contains all x → Contains rest y ⊎ Contains later y → item_cmp x y ≡ Less
