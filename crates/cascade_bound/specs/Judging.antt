-- How many look-ups it takes to judge the suspects of an edit.
use Rattle.std.specs.Prelude.{◌+◌, ◌*◌, ◌≤◌, ℕ, List, length}
use Rattle.std.specs.List.{Contains, sum_by}
use Rattle.item_index.specs.Graphs.{Graph}
use Rattle.cat_items.specs.declared.edit.Edit.{Edit}
use Rattle.cat_items.specs.declared.item.Item.{Item}
use Rattle.cat_items.specs.Survivors.{IsSystemRight}
use Rattle.asked_parts.specs.Parts.{HasAsked, IsPartOf}
use Rattle.asked_parts.specs.Under.{look_ups}
use Rattle.edit_parts.specs.Parts.{HasAllTouched}

-- No more than these lists tell: all that is touched, and a part for it, each once, the keys that this asks for, with what stands under them, and two for
-- each right that the system could grant for the part.
abbrev pub JudgesWithin : Graph Item → List Item → Edit → List ℕ → ℕ → Type 0
JudgesWithin g c edit marks spent = (all part keys rights : List Item) → HasAllTouched g marks edit part all → IsPartOf g c marks all part → HasAsked part all keys → ((x : Item) → IsSystemRight part x → Contains rights x)
    → spent ≤ length all + (sum_by (look_ups g) keys + 2 * length rights)
