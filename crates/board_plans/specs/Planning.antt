-- Of what a plan is made: the board, what of it is touched, and what comes in.
use Rattle.std.specs.Prelude.{◌≡◌, ◌≢◌, ◌↔◌, ◌⊎◌, ℕ, Bool, true, List, Some}
use Rattle.std.specs.List.{AllPairs, Contains}
use Rattle.item_index.specs.Graphs.{Graph, HasKey, IsWhole}
use Rattle.cat_items.specs.declared.item.Item.{Item}
use Rattle.cat_items.specs.Survivors.{IsSystemRight}
use Rattle.cascade_laws.specs.Alike.{AreAlike}
use Rattle.cascade_laws.specs.Topics.{Topic, DependsOn, IsOptionTopic, IsUnder}
use Rattle.edit_rules.specs.Chosen.{AreAll}
use Rattle.board_graph.specs.BoardKeys.{IsKeyOf, topic_key}
use Rattle.board_graph.specs.Boards.{IsOwnTopic}
use Rattle.topic_keys.specs.Homes.{IsHome}
use Rattle.topic_keys.specs.Lists.{IsKeyWhere}
use Rattle.topic_lists.specs.Sought.{IsTopicOf}
use Rattle.board_steps.specs.Plans.{HasNoHelper, IsFullBoard, IsOfSuspect, TellsApart}
use Rattle.board_plans.specs.declared.arrivals.Arrival.{Arrival}

-- the numbers of all suspects, and else of topics
pub record AreTouched (g : Graph Item) (c : List Item) (suspect : Item → Bool) (touched : List ℕ) : Type 0 where
  pub all : (n : ℕ) (k : Item) → HasKey g n k → IsOfSuspect c suspect k → Contains touched n
  pub only : (n : ℕ) → Contains touched n → (k : Item) × HasKey g n k × (IsOfSuspect c suspect k ⊎ ((t : Topic) × IsOwnTopic t × (k ≡ topic_key t)))

-- the key of what the option adds to
abbrev pub IsAddedTo : List Item → Item → Item → Type 0
IsAddedTo c x k = (y : Item) × (t : Topic) × IsKeyOf c y k × IsOptionTopic x t × IsUnder t y

-- the key of the item, and of all that it goes by
pub record IsArrivalOf (c : List Item) (x : Item) (a : Arrival) : Type 0 where
  pub key : IsKeyOf c x a.key
  pub depends_on : AreAll (IsKeyWhere (IsTopicOf c x)) a.depends_on
  pub stands_under : AreAll (IsKeyWhere (IsHome x)) a.stands_under
  pub adds_to : (k : Item) → (a.adds_to ≡ Some k) ↔ IsAddedTo c x k

-- the keys of all suspects, each once
pub record AreArrivals (c : List Item) (suspect : Item → Bool) (arrivals : List Arrival) : Type 0 where
  pub all : (k : Item) → IsOfSuspect c suspect k → (a : Arrival) × Contains arrivals a × (a.key ≡ k)
  pub only : (a : Arrival) → Contains arrivals a → (x : Item) × (suspect x ≡ true) × IsArrivalOf c x a
  pub once : AllPairs (λ a b. a.key ≢ b.key) arrivals

-- suspicion spreads over topics
abbrev pub Spreads : List Item → (Item → Bool) → Type 0
Spreads c suspect = (y x : Item) (t : Topic) → suspect y ≡ true → Contains c x ⊎ IsSystemRight c x → IsUnder t y → DependsOn c x t → suspect x ≡ true

-- The board is that of c, of which the touched numbers are those of suspects and of topics; and what comes in are the suspects of the new
-- catalogue, where what is no suspect is alike.
pub record CanPlan (eq : Item → Item → Bool) (g : Graph Item) (c new : List Item) (suspect : Item → Bool) (touched : List ℕ) (arrivals : List Arrival) : Type 0 where
  pub whole : IsWhole eq g
  pub full : IsFullBoard g c
  pub old_keys : HasNoHelper c × TellsApart eq c
  pub new_keys : HasNoHelper new × TellsApart eq new
  pub alike : AreAlike c new suspect
  pub spreads : Spreads c suspect
  pub touched_are : AreTouched g c suspect touched
  pub arrivals_are : AreArrivals new suspect arrivals
