-- One suspect after the other.
use Rattle.std.specs.Prelude.{◌≡◌, ◌↔◌, ◌++◌, List, [], ◌∷◌, Option, Some}
use Rattle.std.specs.List.{Contains}
use Rattle.cat_items.specs.declared.item.Item.{Item}
use Rattle.cat_items.specs.Catalogues.{IsInOrder}
use Rattle.cat_items.specs.Relevant.{IsOptionOn}
use Rattle.cat_items.specs.Survivors.{IsSystemRight}
use Rattle.item_lists.specs.Walks.{AreBefore}
use Rattle.board_graph.specs.BoardKeys.{IsKeyOf}
use Rattle.board_plans.specs.declared.arrivals.Arrival.{Arrival}
use Rattle.board_plans.specs.Planning.{IsArrivalOf}
use Rattle.edit_arrivals.specs.declared.keys.Passed.{Passed}
use Rattle.edit_arrivals.specs.declared.arriving.Walks.{Walks}

-- in order, the rights that the system could grant
pub record AreSystemRights (found rights : List Item) : Type 0 where
  pub order : IsInOrder rights
  pub members : (x : Item) → Contains rights x ↔ IsSystemRight found x

-- the one that is so, where any is
abbrev pub IsTheOne : (Item → Type 0) → Option Item → Type 0
IsTheOne P one = (x : Item) → (one ≡ Some x) ↔ P x

-- all that was passed comes before x
pub record IsBehind (found rights : List Item) (passed : Passed) (x : Item) : Type 0 where
  pub in_found : AreBefore found passed.found x
  pub in_rights : AreBefore rights passed.rights x

-- all that was passed comes before what the option of x adds to
abbrev pub IsOptionBehind : List Item → List Item → Passed → Item → Type 0
IsOptionBehind found rights passed x = (y : Item) → IsOptionOn x y → IsBehind found rights passed y

-- x, and what its option adds to, are behind all that was passed
pub record IsAhead (found rights : List Item) (walks : Walks) (x : Item) : Type 0 where
  pub own : IsBehind found rights walks.keys x
  pub option : IsOptionBehind found rights walks.options x

-- the item's arrival is put behind the others, if the item has a key
pub data IsPutBehind (found : List Item) (x : Item) (old new : List Arrival) : Type 0 where
  no_key : ((k : Item) → ¬ (IsKeyOf found x k)) → new ≡ old → IsPutBehind found x old new
  one_key : (a : Arrival) → IsArrivalOf found x a → new ≡ old ++ a ∷ [] → IsPutBehind found x old new
