-- Parts of a list, and what a change of many places makes of it.
use Rattle.std.specs.Prelude.{◌≡◌, ◌≢◌, ◌↔◌, ◌⊎◌, ◌+◌, ℕ, List, ◌++◌, length}
use Rattle.std.specs.List.{Contains}
use Rattle.std.specs.declared.cmp.Ordering.TheVariants.{Equal}
use Rattle.cat_items.specs.declared.item.Item.{Item}
use Rattle.cat_items.specs.Order.{item_cmp}

-- four parts of a list, by the places where the second, the third and the last begin
pub record AreParts {X : Type 0} (items : List X) (from middle to : ℕ) (before first second after : List X) : Type 0 where
  pub is : items ≡ before ++ (first ++ (second ++ after))
  pub before_len : length before ≡ from
  pub first_len : from + length first ≡ middle
  pub second_len : middle + length second ≡ to

-- no item of the one has the key of one of the other
abbrev pub HaveNoKeyInCommon : List Item → List Item → Type 0
HaveNoKeyInCommon a b = (x y : Item) → Contains a x → Contains b y → item_cmp x y ≢ Equal

-- the items of the first list but those of the second
abbrev pub IsWithout : List Item → List Item → List Item → Type 0
IsWithout old out new = (x : Item) → Contains new x ↔ (Contains old x × (¬ (Contains out x)))

-- the items of both lists
abbrev pub IsJoined : List Item → List Item → List Item → Type 0
IsJoined old more new = (x : Item) → Contains new x ↔ (Contains old x ⊎ Contains more x)
