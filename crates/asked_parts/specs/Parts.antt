-- The part of an edited catalogue over which rounds are made.
use Rattle.std.specs.Prelude.{◌⊎◌, ℕ, List}
use Rattle.std.specs.List.{Contains}
use Rattle.finite_chains.specs.Chains.{IsWithin}
use Rattle.item_index.specs.Graphs.{Graph, HasKey}
use Rattle.cat_items.specs.declared.item.Item.{Item}
use Rattle.cat_items.specs.Catalogues.{IsInOrder}
use Rattle.cascade_laws.specs.Asks.{Asks}
use Rattle.cascade_laws.specs.Topics.{Topic, IsUnder}
use Rattle.topic_keys.specs.Lists.{IsKeyWhere}
use Rattle.topic_lists.specs.Sought.{IsAskedFor}

-- an item of c with a number that has no mark
abbrev pub IsKept : Graph Item → List Item → List ℕ → Item → Type 0
IsKept g c marks y = Contains c y × ((n : ℕ) × HasKey g n y × (¬ (Contains marks n)))

-- By the board g of c: all suspects, and unmarked items of c, among them all that stand under a topic that a suspect asks for, where the part itself has the
-- schemas, views, columns and role authorizations.
pub record IsPartOf (g : Graph Item) (c : List Item) (marks : List ℕ) (suspects part : List Item) : Type 0 where
  pub order : IsInOrder part
  pub has_suspects : IsWithin suspects part
  pub from : (x : Item) → Contains part x → Contains suspects x ⊎ IsKept g c marks x
  pub asked : (x y : Item) (t : Topic) → Contains suspects x → IsKept g c marks y → Asks part x t → IsUnder t y → Contains part y

-- the key of a topic that a suspect asks for, where it is a key of its own
abbrev pub IsAskedBy : List Item → List Item → Item → Type 0
IsAskedBy part suspects k = (x : Item) × Contains suspects x × IsKeyWhere (IsAskedFor part x) k

-- so, and the key isn't among those that were asked for
abbrev pub IsAskedAnew : List Item → List Item → List Item → Item → Type 0
IsAskedAnew part suspects asked k = IsAskedBy part suspects k × (¬ (Contains asked k))

-- a list has all keys that are asked for
abbrev pub HasAsked : List Item → List Item → List Item → Type 0
HasAsked part suspects keys = (k : Item) → IsAskedBy part suspects k → Contains keys k
