-- Lists that get what is so, and lists of the keys of topics.
use Rattle.std.specs.Prelude.{◌≡◌, ◌↔◌, ◌⊎◌, List}
use Rattle.std.specs.List.{Contains}
use Rattle.std.specs.declared.cmp.Ordering.TheVariants.{Equal}
use Rattle.cat_items.specs.declared.item.Item.{Item}
use Rattle.cat_items.specs.Order.{item_cmp}
use Rattle.cascade_laws.specs.Topics.{Topic}
use Rattle.board_graph.specs.BoardKeys.{topic_key}

-- a list got all that is so, and nothing else
abbrev pub Gets : {X : Type 0} → (X → Type 0) → List X → List X → Type 0
Gets {X} P old new = (x : X) → Contains new x ↔ (Contains old x ⊎ P x)

-- the key of a topic that is so
abbrev pub IsKeyWhere : (Topic → Type 0) → Item → Type 0
IsKeyWhere P k = (t : Topic) × P t × (k ≡ topic_key t)

-- a list of keys got those of all topics that are so
abbrev pub Adds : (Topic → Type 0) → List Item → List Item → Type 0
Adds P old new = Gets (IsKeyWhere P) old new

-- of these items two with one key are the same
abbrev pub AreKnownByKey : List Item → Type 0
AreKnownByKey items = (x y : Item) → Contains items x → Contains items y → item_cmp x y ≡ Equal → x ≡ y
