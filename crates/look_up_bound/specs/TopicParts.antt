-- What stands that a topic is made of.
use Rattle.std.specs.Prelude.{◌≡◌, ◌⊎◌, List}
use Rattle.sql_names.specs.declared.object.Object.{Object}
use Rattle.cat_items.specs.declared.need.Auth.{Auth}
use Rattle.cat_items.specs.declared.need.Need.{Need}
use Rattle.cat_items.specs.declared.item.Item.{Item}
use Rattle.cat_items.specs.declared.item.Item.TheVariants as item
use Rattle.cat_items.specs.Fit.{IsRight}
use Rattle.cat_items.specs.Reach.{Has}
use Rattle.cat_items.specs.Relevant.{IsNeedOf}
use Rattle.cat_items.specs.Rights.{Stands}
use Rattle.cascade_laws.specs.Asks.{IsFarTopic}
use Rattle.cascade_laws.specs.Topics.{Topic, supply, edges, admins, IsUnder, IsNeedTopic}
use Rattle.look_up_bound.specs.PossibleRights.{IsBySystem}

-- Something stands under the topic of a name; for the rights of a need its object stands, and its column where it names one.
abbrev pub HasParts : List Item → Topic → Type 0
HasParts u (supply need grantee) = Stands u need
HasParts u (edges grantee) = Unit {0}
HasParts u (admins role grantee) = Unit {0}
HasParts u t = Has u (IsUnder t)

-- the topic is of the parts of the need, or of its rights
abbrev pub IsOfNeed : Need → Topic → Type 0
IsOfNeed need t = IsNeedTopic need t ⊎ ((grantee : Auth) × (t ≡ supply need grantee))

-- A supported item may ask for the topic though its parts don't stand: a right, for what it depends on by way of its object; a table, by a need of a column that
-- it can do without; and a right by the system, by a need that it can do without.
pub data MayLackParts (s : List Item) (x : Item) (t : Topic) : Type 0 where
  by_object : IsRight x → IsFarTopic x t → MayLackParts s x t
  by_column : (table : Object) → x ≡ item.Table table → (need : Need) → IsNeedOf s x need → IsOfNeed need t → MayLackParts s x t
  by_system : IsBySystem x → (need : Need) → IsNeedOf s x need → IsOfNeed need t → MayLackParts s x t
