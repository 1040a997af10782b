-- How many rights the system could grant on an item.
use Rattle.std.specs.Prelude.{ℕ}
use Rattle.cat_items.specs.declared.item.Item.{Item}
use Rattle.cat_items.specs.declared.item.Item.TheVariants as item

-- for each action on an object or a column one that is held and one with grant option
abbrev pub granted_on : Item → ℕ
granted_on (item.Table o) = 10
granted_on (item.View v) = 8
granted_on (item.Column k) = 8
granted_on (item.Domain d) = 2
granted_on (item.Routine z) = 2
granted_on x = 0
