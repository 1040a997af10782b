-- Which items are suspects, by the marks on a board.
use Rattle.std.specs.Prelude.{◌↔◌, ℕ, Bool, true, not, ◌&&◌, ◌||◌, List}
use Rattle.std.specs.List.{Contains, list_any}
use Rattle.std.specs.Ordering.{is_eq}
use Rattle.item_index.specs.Graphs.{Graph, HasKey, holds}
use Rattle.item_index.specs.Undo.{key_at}
use Rattle.cat_items.specs.declared.item.Item.{Item}
use Rattle.cat_items.specs.declared.item.Item.TheVariants as item
use Rattle.cat_items.specs.Order.{item_cmp, name_cmp}
use Rattle.cat_items.specs.Survivors.{IsSystemRight}
use Rattle.board_graph.specs.BoardKeys.{IsKeyOf, ghost_key}
use Rattle.key_tests.specs.Tests.{is_helper, may_be_ghost}

abbrev pub has_same_name : Item → Item → Bool
has_same_name (item.Column a) (item.Column b) = is_eq (name_cmp a.name b.name)
has_same_name x y = true

-- whether two items have one key, and as columns one name: then they stand under the same topics
abbrev pub is_alike : Item → Item → Bool
is_alike x y = is_eq (item_cmp x y) && has_same_name x y

abbrev pub is_among : Item → List Item → Bool
is_among x items = list_any (is_alike x) items

-- whether a marked number has this key
abbrev pub has_mark : Graph Item → List ℕ → Item → Bool
has_mark g marks k = list_any (λ n. holds is_alike k (key_at g n)) marks

-- whether an item is a suspect: it is added or fresh, or its node is marked, or that of its ghost
abbrev pub is_suspect : Graph Item → List ℕ → List Item → List Item → Item → Bool
is_suspect g marks added fresh x = is_among x added || (is_among x fresh || ((not (is_helper x) && has_mark g marks x) || (may_be_ghost x && has_mark g marks (ghost_key x))))

-- the rights that the system could grant for the edited list, and that neither stand in c nor could be granted for it
abbrev pub AreFresh : List Item → List Item → List Item → Type 0
AreFresh c edited fresh = (x : Item) → Contains fresh x ↔ (IsSystemRight edited x × (¬ (Contains c x)) × (¬ (IsSystemRight c x)))

-- the number of its key is marked
pub record HasMarkedKey (g : Graph Item) (c : List Item) (marks : List ℕ) (x : Item) : Type 0 where
  pub key : Item
  pub number : ℕ
  pub is : IsKeyOf c x key
  pub has : HasKey g number key
  pub marked : Contains marks number
