-- The items under a key of a board, and what it costs to look them up.
use Rattle.std.specs.Prelude.{◌≡◌, ◌+◌, ◌*◌, ℕ, List, length, Option, Some, None}
use Rattle.std.specs.List.{Contains}
use Rattle.std.specs.declared.cmp.Ordering.TheVariants.{Equal}
use Rattle.item_index.specs.Graphs.{Graph, HasKey, node_of}
use Rattle.item_index.specs.Shelves.{list_at}
use Rattle.cat_items.specs.declared.item.Item.{Item}
use Rattle.cat_items.specs.contracts.item.ItemPartialEq.TheImpl as same
use Rattle.cat_items.specs.Order.{item_cmp}
use Rattle.board_graph.specs.BoardKeys.{IsHelper}

-- the number has no mark, and an item, no helper, for its key
abbrev pub IsUnmarkedAt : Graph Item → List ℕ → ℕ → Item → Type 0
IsUnmarkedAt g marks n y = HasKey g n y × (¬ (Contains marks n)) × (¬ (IsHelper y))

abbrev pub IsUnmarked : Graph Item → List ℕ → Item → Type 0
IsUnmarked g marks y = (n : ℕ) × IsUnmarkedAt g marks n y

-- an unmarked item that this number rests on
abbrev pub IsRestOf : Graph Item → List ℕ → ℕ → Item → Type 0
IsRestOf g marks n y = (m : ℕ) × Contains (list_at g.rests n) m × IsUnmarkedAt g marks m y

-- an unmarked item that the number with this key rests on
abbrev pub IsUnderKey : Graph Item → List ℕ → Item → Item → Type 0
IsUnderKey g marks k y = (n : ℕ) × HasKey g n k × IsRestOf g marks n y

-- an unmarked item under one of these keys
abbrev pub IsUnderAny : Graph Item → List ℕ → List Item → Item → Type 0
IsUnderAny g marks keys y = (k : Item) × Contains keys k × IsUnderKey g marks k y

-- an unmarked item with the place of one of these in the order of items is that one
abbrev pub AreApart : Graph Item → List ℕ → List Item → Type 0
AreApart g marks items = (x y : Item) → Contains items x → IsUnmarked g marks y → item_cmp x y ≡ Equal → x ≡ y

-- each number that it rests on, with its key, and the end of the list
abbrev pub rests_cost : Graph Item → ℕ → ℕ
rests_cost g n = 1 + 2 * length (list_at g.rests n)

abbrev pub node_cost : Graph Item → Option ℕ → ℕ
node_cost g None = 0
node_cost g (Some n) = rests_cost g n

-- what it costs to look up the items under a key: its node, and what this rests on
abbrev pub look_ups : Graph Item → Item → ℕ
look_ups g k = 1 + node_cost g (node_of same.ghosts.eq g k)
