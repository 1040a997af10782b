-- For whom the needs of an item are to be met, and whom this one reaches.
use Rattle.std.specs.Prelude.{◌≡◌, ◌↔◌, List, Option, Some, None}
use Rattle.std.specs.List.{Contains}
use Rattle.sql_names.specs.NameBytes.{NameBytes}
use Rattle.cat_items.specs.declared.need.Auth.{Auth}
use Rattle.cat_items.specs.declared.need.Auth.TheVariants.{Named}
use Rattle.cat_items.specs.declared.item.Item.{Item}
use Rattle.cat_items.specs.Reach.{Reaches}
use Rattle.cat_items.specs.Relevant.{IsActor}
use Rattle.role_graph.specs.declared.actor.Actor.{Actor}
use Rattle.role_graph.specs.Actors.{auth_of}

abbrev pub auth_in : Option Actor → Option Auth
auth_in None = None
auth_in (Some actor) = Some (auth_of actor)

-- the one that is so, where any is
abbrev pub IsTheOne : (Auth → Type 0) → Option Auth → Type 0
IsTheOne P found = (a : Auth) → P a ↔ (found ≡ Some a)

-- one of these names
abbrev pub IsNamedAmong : List NameBytes → Auth → Type 0
IsNamedAmong names g = (name : NameBytes) × Contains names name × (g ≡ Named name)

-- a name that a name reaches
abbrev pub IsNamedReach : List Item → NameBytes → Auth → Type 0
IsNamedReach l from g = (name : NameBytes) × Reaches l (Named from) (Named name) × (g ≡ Named name)

-- the actor of the item reaches this one
abbrev pub IsReachedBy : List Item → Item → Auth → Type 0
IsReachedBy l x g = (a : Auth) × IsActor l x a × Reaches l a g
