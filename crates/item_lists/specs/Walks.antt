-- Places in a list in order, and which items stand in it.
use Rattle.std.specs.Prelude.{◌≡◌, ◌<◌, ◌≤◌, ℕ, Bool, true, false, List, length, slice_index_or}
use Rattle.std.specs.List.{Contains}
use Rattle.std.specs.declared.cmp.Ordering.TheVariants.{Less, Greater}
use Rattle.cat_items.specs.declared.item.Item.{Item}
use Rattle.cat_items.specs.Order.{item_cmp}

-- the item stands in the list, or it doesn't
abbrev pub StandsAs : Bool → List Item → Item → Type 0
StandsAs true items x = Contains items x
StandsAs false items x = ¬ (Contains items x)

-- the items before this place come before x
pub record AreBefore (items : List Item) (from : ℕ) (x : Item) : Type 0 where
  pub within : from ≤ length items
  pub before : (k : ℕ) (d : Item) → k < from → item_cmp (slice_index_or items k d) x ≡ Less

-- the items before this place come before x, and the others behind it
pub record IsGap (items : List Item) (gap : ℕ) (x : Item) : Type 0 where
  pub front : AreBefore items gap x
  pub behind : (k : ℕ) (d : Item) → gap ≤ k → k < length items → item_cmp (slice_index_or items k d) x ≡ Greater
