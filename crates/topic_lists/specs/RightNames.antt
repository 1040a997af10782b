-- What a right names, and how it is like another: of rights that stand side by side, one names most of what the other does.
use Rattle.std.specs.Prelude.{◌≡◌, ◌⊎◌, List, Option, Some, None}
use Rattle.std.specs.List.{Contains}
use Rattle.cat_items.specs.declared.need.Auth.{Auth}
use Rattle.cat_items.specs.declared.need.Need.{Need}
use Rattle.cat_items.specs.declared.item.Right.{Right}
use Rattle.cat_items.specs.declared.item.Item.{Item}
use Rattle.cat_items.specs.declared.item.Item.TheVariants as item
use Rattle.cascade_laws.specs.Asks.{IsFirstTopic}
use Rattle.cascade_laws.specs.Topics.{Topic, IsAuthTopic, IsObjectTopic}
use Rattle.board_graph.specs.BoardKeys.{topic_key}
use Rattle.topic_keys.specs.Names.{IsNeedColumnTopic}

-- the right that an item is
abbrev pub right_in : Item → Option Right
right_in (item.Held r) = Some r
right_in (item.Grantable r) = Some r
right_in x = None

abbrev pub right_before : Option Item → Option Right
right_before None = None
right_before (Some x) = right_in x

-- the object of a need, and its schema
abbrev pub IsPlaceTopic : Need → Topic → Type 0
IsPlaceTopic need t = IsObjectTopic need.action need.on t ⊎ IsFirstTopic need.on t

-- what a right names, also where it depends on this by way of its object
abbrev pub IsRightName : Right → Topic → Type 0
IsRightName r t = (IsNeedColumnTopic r.need t ⊎ IsPlaceTopic r.need t) ⊎ (IsAuthTopic r.grantee t ⊎ IsAuthTopic r.grantor t)

-- the keys of all that the other right names, if there is one, are there
abbrev pub HasNamed : Option Right → List Item → Type 0
HasNamed None keys = Unit {0}
HasNamed (Some r) keys = (t : Topic) → IsRightName r t → Contains keys (topic_key t)

-- the other right is of the same action on the same object
abbrev pub IsAt : Need → Option Right → Type 0
IsAt need None = ⊥
IsAt need (Some r) = (r.need.action ≡ need.action) × (r.need.on ≡ need.on)

-- of the same need
abbrev pub IsOf : Need → Option Right → Type 0
IsOf need None = ⊥
IsOf need (Some r) = r.need ≡ need

-- to the same one
abbrev pub IsTo : Auth → Option Right → Type 0
IsTo grantee None = ⊥
IsTo grantee (Some r) = r.grantee ≡ grantee

-- by the same one
abbrev pub IsBy : Auth → Option Right → Type 0
IsBy grantor None = ⊥
IsBy grantor (Some r) = r.grantor ≡ grantor
