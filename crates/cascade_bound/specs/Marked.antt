-- Marked numbers of a board: those of items and of rights that the system could grant, and those of topics.
use Rattle.std.specs.Prelude.{◌≢◌, ◌↔◌, ◌⊎◌, ℕ, List}
use Rattle.std.specs.List.{AllPairs, Contains}
use Rattle.finite_chains.specs.Chains.{IsWithin}
use Rattle.item_index.specs.Graphs.{Graph, HasKey, IsWhole}
use Rattle.cat_items.specs.contracts.item.ItemPartialEq.TheImpl as same
use Rattle.cat_items.specs.declared.edit.Edit.{Edit}
use Rattle.cat_items.specs.declared.item.Item.{Item}
use Rattle.cascade_laws.specs.Topics.{Topic}
use Rattle.board_graph.specs.BoardKeys.{IsKeyOf, topic_key}
use Rattle.board_graph.specs.Boards.{IsOwnTopic}
use Rattle.board_steps.specs.Plans.{HasNoHelper, IsFullBoard, IsSpent}
use Rattle.edit_suspects.specs.Seeds.{AreTouched}

-- the number has the key of an item, or of a right that the system could grant
abbrev pub IsKnownAt : Graph Item → List Item → ℕ → Type 0
IsKnownAt g c n = (x k : Item) × HasKey g n k × IsKeyOf c x k

-- the number has the key of a topic
abbrev pub IsTopicAt : Graph Item → ℕ → Type 0
IsTopicAt g n = (t : Topic) × IsOwnTopic t × HasKey g n (topic_key t)

-- of these numbers those of items and of rights that the system could grant, each once
pub record AreKnown (g : Graph Item) (c : List Item) (marks own : List ℕ) : Type 0 where
  pub exactly : (n : ℕ) → Contains own n ↔ (Contains marks n × IsKnownAt g c n)
  pub once : AllPairs (λ m n. m ≢ n) own

-- These numbers of the board of c are touched by an edit that destroys and changes what c has, and these of them are no topics'.
pub record AreTouchedOn (g : Graph Item) (c : List Item) (edit : Edit) (marks own : List ℕ) : Type 0 where
  pub whole : IsWhole same.ghosts.eq g
  pub full : IsFullBoard g c
  pub no_helper : HasNoHelper c
  pub target : IsWithin edit.target c
  pub changed : IsWithin edit.changed c
  pub touched : AreTouched same.ghosts.eq g edit marks
  pub known : AreKnown g c marks own

-- of the marked numbers some that go out: of items and of rights that the system could grant, and topics that keep no link
pub record GoOut (g : Graph Item) (c : List Item) (marks out : List ℕ) : Type 0 where
  pub once : AllPairs (λ m n. m ≢ n) out
  pub marked : IsWithin out marks
  pub only : (n : ℕ) → Contains out n → IsKnownAt g c n ⊎ ((k : Item) × HasKey g n k × IsSpent g out n k)
