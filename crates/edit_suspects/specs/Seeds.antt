-- Where an edit begins on a board, and what it touches.
use Rattle.std.specs.Prelude.{◌≡◌, ◌↔◌, ◌+◌, ◌*◌, ℕ, Bool, true, false, List, length}
use Rattle.std.specs.List.{Contains}
use Rattle.item_index.specs.Graphs.{Graph, HasKey}
use Rattle.cat_items.specs.declared.edit.Edit.{Edit}
use Rattle.cat_items.specs.declared.item.Item.{Item}
use Rattle.cascade_laws.specs.Topics.{Topic}
use Rattle.board_graph.specs.BoardKeys.{ghost_key, topic_key}
use Rattle.board_marks.specs.Marks.{AreClosed, IsMarked}
use Rattle.link_marks.specs.Reached.{AreReached}
use Rattle.topic_keys.specs.Homes.{IsHome}
use Rattle.key_tests.specs.Tests.{is_helper, may_be_ghost}

-- a key by which a board may know an added item already: the item's own, that of its ghost, or that of a topic under which it stands
pub data IsAddedKey (x k : Item) : Type 0 where
  of_item : is_helper x ≡ false → k ≡ x → IsAddedKey x k
  of_ghost : may_be_ghost x ≡ true → k ≡ ghost_key x → IsAddedKey x k
  of_topic : (t : Topic) → IsHome x t → k ≡ topic_key t → IsAddedKey x k

abbrev pub IsKeyOfAdded : List Item → Item → Type 0
IsKeyOfAdded added k = (x : Item) × Contains added x × IsAddedKey x k

-- a key with which the edit begins
pub data IsSeedKey (edit : Edit) (k : Item) : Type 0 where
  of_target : Contains edit.target k → IsSeedKey edit k
  of_changed : Contains edit.changed k → IsSeedKey edit k
  of_added : IsKeyOfAdded edit.added k → IsSeedKey edit k

-- the number has a key that equals this
abbrev pub IsNumber : (Item → Item → Bool) → Graph Item → Item → ℕ → Type 0
IsNumber eq g k n = (j : Item) × HasKey g n j × (eq k j ≡ true)

-- it has a key that equals one that is so
abbrev pub IsNumberOf : (Item → Item → Bool) → Graph Item → (Item → Type 0) → ℕ → Type 0
IsNumberOf eq g P n = (k : Item) × P k × IsNumber eq g k n

-- the numbers of the keys with which the edit begins, and all that rests on them, directly or by way of others, each once
pub record AreTouched (eq : Item → Item → Bool) (g : Graph Item) (edit : Edit) (marks : List ℕ) : Type 0 where
  pub from : List ℕ
  pub seeds : (n : ℕ) → Contains from n ↔ IsNumberOf eq g (IsSeedKey edit) n
  pub reached : AreReached g.dependents from marks

-- what the edit begins with is marked, and with each marked number all that rest on it
pub record HaveSpread (g : Graph Item) (edit : Edit) (marks : List ℕ) : Type 0 where
  pub begun : (k : Item) → IsSeedKey edit k → IsMarked g marks k
  pub closed : AreClosed g marks

-- what it costs at most to look up the keys with which an edit begins
abbrev pub seed_look_ups : Edit → ℕ
seed_look_ups edit = length edit.target + length edit.changed + 4 * length edit.added
