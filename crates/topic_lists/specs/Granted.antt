-- Rights by a user or role: what is looked for, for them.
use Rattle.std.specs.Prelude.{◌≡◌, ◌⊎◌, List, Option, Some, None}
use Rattle.std.specs.List.{Contains}
use Rattle.sql_names.specs.NameBytes.{NameBytes}
use Rattle.cat_items.specs.declared.need.Auth.{Auth}
use Rattle.cat_items.specs.declared.need.Auth.TheVariants.{Public, Named}
use Rattle.cat_items.specs.declared.need.Need.{Need}
use Rattle.cat_items.specs.declared.item.Right.{Right}
use Rattle.cat_items.specs.declared.item.Item.{Item}
use Rattle.cat_items.specs.Reach.{Reaches}
use Rattle.cascade_laws.specs.Topics.{Topic, edges, supply}
use Rattle.board_graph.specs.BoardKeys.{topic_key}
use Rattle.topic_lists.specs.RightNames.{IsRightName}

-- the rights of a need to a user or role, and the role authorizations to it
abbrev pub IsToTopic : Need → NameBytes → Topic → Type 0
IsToTopic need to t = (t ≡ supply need (Named to)) ⊎ (t ≡ edges to)

-- so of itself, or of a role that it reaches
abbrev pub IsReachTopic : List Item → Need → NameBytes → Topic → Type 0
IsReachTopic l need by t = (to : NameBytes) × Reaches l (Named by) (Named to) × IsToTopic need to t

-- what a right of this need looks for that this one granted
abbrev pub IsGrantTopic : List Item → Need → NameBytes → Topic → Type 0
IsGrantTopic l need by t = (t ≡ supply need Public) ⊎ IsReachTopic l need by t

abbrev pub IsGrantTopicBy : List Item → Need → Auth → Topic → Type 0
IsGrantTopicBy l need (Named by) t = IsGrantTopic l need by t
IsGrantTopicBy l need grantor t = ⊥

-- the keys of all that the other right looks for, if a user or role granted it, are there
abbrev pub HasGranted : List Item → Option Right → List Item → Type 0
HasGranted l None keys = Unit {0}
HasGranted l (Some r) keys = (t : Topic) → IsGrantTopicBy l r.need r.grantor t → Contains keys (topic_key t)

-- a user or role granted the other right, which is of the same need
abbrev pub IsGranted : Need → Option Right → Type 0
IsGranted need None = ⊥
IsGranted need (Some r) = (r.need ≡ need) × ((by : NameBytes) × (r.grantor ≡ Named by))

-- what is asked for a right that this one granted
abbrev pub IsAskedOf : List Item → Right → NameBytes → Topic → Type 0
IsAskedOf l r by t = IsRightName r t ⊎ IsGrantTopic l r.need by t
