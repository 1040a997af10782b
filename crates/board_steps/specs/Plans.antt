-- A plan: which numbers of a board go out, which keys come in, and which links are made, so that it becomes the board of the new catalogue.
use Rattle.std.specs.Prelude.{◌≡◌, ◌≢◌, ◌↔◌, ◌⊎◌, ℕ, Bool, true, List}
use Rattle.std.specs.List.{AllPairs, Contains}
use Rattle.item_index.specs.Graphs.{Graph, HasKey}
use Rattle.item_index.specs.Shelves.{list_at}
use Rattle.item_index.specs.Undo.{inserted_all, removed_all}
use Rattle.cat_items.specs.declared.item.Item.{Item}
use Rattle.cascade_laws.specs.Topics.{Topic, IsUnder, DependsOn}
use Rattle.board_graph.specs.BoardKeys.{topic_key, IsKeyOf, IsHelper}
use Rattle.board_graph.specs.Boards.{IsBoard, IsLink, IsOwnTopic}

-- the key of the item goes by the topic: the item depends on it, or stands under it
pub record GoesBy (c : List Item) (x k : Item) (t : Topic) : Type 0 where
  pub key : IsKeyOf c x k
  pub by : DependsOn c x t ⊎ IsUnder t x
  pub own : IsOwnTopic t

-- A board with a node for each topic that a key of it goes by: what depends on a topic, and what stands under it, are linked by way of the topic.
pub record IsFullBoard (g : Graph Item) (c : List Item) : Type 0 where
  pub board : IsBoard g c
  pub topics : (x k : Item) (t : Topic) → GoesBy c x k t → (n : ℕ) × HasKey g n (topic_key t)

-- no item of the list has the key of a helper
abbrev pub HasNoHelper : List Item → Type 0
HasNoHelper c = (x : Item) → Contains c x → IsHelper x → ⊥

-- the key is of a suspect
abbrev pub IsOfSuspect : List Item → (Item → Bool) → Item → Type 0
IsOfSuspect c suspect k = (x : Item) × IsKeyOf c x k × (suspect x ≡ true)

-- the key of an item that stands, of what the system could grant, or of a topic
abbrev pub IsBoardKey : List Item → Item → Type 0
IsBoardKey c k = ((x : Item) × IsKeyOf c x k) ⊎ ((t : Topic) × IsOwnTopic t × (k ≡ topic_key t))

-- the test is true of no two keys of a board
abbrev pub TellsApart : (Item → Item → Bool) → List Item → Type 0
TellsApart eq c = (j k : Item) → IsBoardKey c j → IsBoardKey c k → eq j k ≡ true → j ≡ k

-- a suspect goes by the topic
abbrev pub IsOnSuspect : List Item → (Item → Bool) → Topic → Type 0
IsOnSuspect c suspect t = (x k : Item) × GoesBy c x k t × (suspect x ≡ true)

-- the number has a topic's key, and each number that it is linked with goes out
abbrev pub IsSpent : Graph Item → List ℕ → ℕ → Item → Type 0
IsSpent g out n k = (t : Topic) × IsOwnTopic t × (k ≡ topic_key t) × ((m : ℕ) → Contains (list_at g.rests n) m ⊎ Contains (list_at g.rests m) n → Contains out m)

-- the key is of a topic that a suspect goes by, and that has no node
abbrev pub IsMissing : Graph Item → List Item → (Item → Bool) → Item → Type 0
IsMissing g c suspect k = (t : Topic) × IsOnSuspect c suspect t × (k ≡ topic_key t) × ((n : ℕ) → HasKey g n k → ⊥)

-- a link of a suspect, between these numbers
pub record IsSuspectLink (g : Graph Item) (c : List Item) (suspect : Item → Bool) (m n : ℕ) : Type 0 where
  pub from : Item
  pub to : Item
  pub from_is : HasKey g m from
  pub to_is : HasKey g n to
  pub link : IsLink c from to
  pub suspected : IsOfSuspect c suspect from ⊎ IsOfSuspect c suspect to

-- Of a board of c: the nodes of all suspects go out, and of no other but topics that keep no link; then come in the keys of all suspects of
-- the new catalogue, and of the topics that these go by, where they have no node; then all links of these suspects are made.
pub record IsPlanOf (g : Graph Item) (c new : List Item) (suspect : Item → Bool) (out : List ℕ) (keys : List Item) (links : List (ℕ × ℕ)) : Type 0 where
  pub suspects_out : (n : ℕ) (k : Item) → HasKey g n k → IsOfSuspect c suspect k → Contains out n
  pub only_out : (n : ℕ) → Contains out n → (k : Item) × HasKey g n k × (IsOfSuspect c suspect k ⊎ IsSpent g out n k)
  pub out_once : AllPairs (λ m n. m ≢ n) out
  pub suspects_in : (k : Item) → IsOfSuspect new suspect k → Contains keys k
  pub topics_in : (t : Topic) → IsOnSuspect new suspect t → ((n : ℕ) × HasKey (removed_all g out) n (topic_key t)) ⊎ Contains keys (topic_key t)
  pub only_in : (k : Item) → Contains keys k → IsOfSuspect new suspect k ⊎ IsMissing (removed_all g out) new suspect k
  pub keys_once : AllPairs (λ j k. j ≢ k) keys
  pub made : (m n : ℕ) → Contains links (m, n) ↔ IsSuspectLink (inserted_all (removed_all g out) keys) new suspect m n
  pub made_once : AllPairs (λ l k. l ≢ k) links
