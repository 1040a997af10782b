-- The first of the items that an edit takes or changes beyond its target.
use Rattle.std.specs.Prelude.{◌≡◌, ◌⊎◌, List}
use Rattle.std.specs.declared.cmp.Ordering.TheVariants.{Less}
use Rattle.cat_items.specs.declared.item.Item.{Item}
use Rattle.cat_items.specs.declared.edit.Edit.{Edit}
use Rattle.cat_items.specs.Order.{item_cmp}
use Rattle.cat_items.specs.Edits.{IsFurther}

-- a further item that comes before each other one
pub record IsLeastFurther (c : List Item) (edit : Edit) (new : List Item) (x : Item) : Type 0 where
  pub is : IsFurther c edit new x
  pub least : (other : Item) → IsFurther c edit new other → (other ≡ x) ⊎ (item_cmp x other ≡ Less)
