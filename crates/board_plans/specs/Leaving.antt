-- Which numbers of a board go out: those of items, of rights that the system could grant, and of topics that are linked with nothing else.
use Rattle.std.specs.Prelude.{◌≡◌, ◌≢◌, ◌↔◌, ◌⊎◌, ◌&&◌, ◌+◌, ℕ, Bool, true, false, not, cond, List, Option, Some, slice_get}
use Rattle.std.specs.List.{AllPairs, Contains}
use Rattle.item_index.specs.Graphs.{Graph}
use Rattle.cat_items.specs.declared.item.Item.{Item}
use Rattle.key_tests.specs.Tests.{is_topic}
use Rattle.board_plans.specs.Spent.{has_no_other, is_among, links_cost}

abbrev pub has_topic : Option (Option Item) → Bool
has_topic (Some (Some k)) = is_topic k
has_topic o = false

abbrev pub has_item : Option (Option Item) → Bool
has_item (Some (Some k)) = not (is_topic k)
has_item o = false

-- whether the number has a topic's key
abbrev pub is_topic_at : Graph Item → ℕ → Bool
is_topic_at g n = has_topic (slice_get g.keys n)

-- whether it has a key that is no topic's
abbrev pub is_item_at : Graph Item → ℕ → Bool
is_item_at g n = has_item (slice_get g.keys n)

-- the number is touched, and its key is no topic's
abbrev pub goes : Graph Item → List ℕ → ℕ → Bool
goes g touched n = is_among touched n && is_item_at g n

-- the number is touched, its key is a topic's, and all that it is linked with goes
abbrev pub is_spent : Graph Item → List ℕ → ℕ → Bool
is_spent g touched n = is_among touched n && is_topic_at g n && has_no_other (goes g touched) g n

-- all numbers that go, and of the topics those that are spent by that, each once
pub record AreOutgoing (g : Graph Item) (touched out : List ℕ) : Type 0 where
  pub exactly : (n : ℕ) → Contains out n ↔ ((goes g touched n ≡ true) ⊎ (is_spent g touched n ≡ true))
  pub once : AllPairs (λ m n. m ≢ n) out

-- what it costs to tell: the key of the number, and of a topic what it is linked with
abbrev pub look_ups : Graph Item → List ℕ → ℕ → ℕ
look_ups g touched n = 1 + cond (is_topic_at g n) (links_cost (goes g touched) g n) 0
