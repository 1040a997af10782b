-- How far a part has come, by the board alone.
use Rattle.std.specs.Prelude.{◌≡◌, ◌↔◌, ◌⊎◌, ℕ, List, Option, Some, None}
use Rattle.std.specs.List.{Contains}
use Rattle.finite_chains.specs.Chains.{IsWithin}
use Rattle.item_index.specs.Graphs.{Graph}
use Rattle.sql_names.specs.declared.object.Object.{Object}
use Rattle.cat_items.specs.declared.need.Auth.{Auth}
use Rattle.cat_items.specs.declared.need.Auth.TheVariants.{System}
use Rattle.cat_items.specs.declared.item.Item.{Item}
use Rattle.cat_items.specs.declared.item.Item.TheVariants as item
use Rattle.cat_items.specs.Catalogues.{IsInOrder}
use Rattle.cat_items.specs.Ranges.{IsRoleAuthorization, IsView}
use Rattle.cat_items.specs.Reach.{Has}
use Rattle.asked_parts.specs.Parts.{IsAskedBy}
use Rattle.asked_parts.specs.Under.{IsUnmarked, IsUnderKey}

-- what an option adds to
abbrev pub option_of : Item → Option Item
option_of (item.Grantable r) = Some (item.Held r)
option_of (item.RoleAdmin g) = Some (item.RoleAuth g)
option_of x = None

-- an unmarked item that the item's option adds to
abbrev pub IsAddedTo : Graph Item → List ℕ → Item → Item → Type 0
IsAddedTo g marks x y = (option_of x ≡ Some y) × IsUnmarked g marks y

abbrev pub IsAddedToBySome : Graph Item → List ℕ → List Item → Item → Type 0
IsAddedToBySome g marks suspects y = (x : Item) × Contains suspects x × IsAddedTo g marks x y

-- the suspects, and what their options add to
pub record IsBegun (g : Graph Item) (marks : List ℕ) (suspects part : List Item) : Type 0 where
  pub has_suspects : IsWithin suspects part
  pub options : (x y : Item) → Contains suspects x → IsAddedTo g marks x y → Contains part y

-- the part has all that its suspects ask for
pub record IsClosed (g : Graph Item) (marks : List ℕ) (suspects part : List Item) : Type 0 where
  pub begun : IsBegun g marks suspects part
  pub asked : (k y : Item) → IsAskedBy part suspects k → IsUnderKey g marks k y → Contains part y

-- the part has all that was asked for, and nothing but suspects and unmarked items
pub record IsUnderWay (g : Graph Item) (marks : List ℕ) (suspects part asked : List Item) : Type 0 where
  pub order : IsInOrder part
  pub asked_order : IsInOrder asked
  pub begun : IsBegun g marks suspects part
  pub from : (x : Item) → Contains part x → Contains suspects x ⊎ IsUnmarked g marks x
  pub asked_for : (k : Item) → Contains asked k → IsAskedBy part suspects k
  pub found : (k y : Item) → Contains asked k → IsUnderKey g marks k y → Contains part y

-- the part is within each that is closed
abbrev pub IsLeast : Graph Item → List ℕ → List Item → List Item → Type 0
IsLeast g marks suspects part = (p : List Item) → IsClosed g marks suspects p → IsWithin part p

-- Nothing is left to be asked for: the part has all that its suspects ask for, and nothing else.
pub record HasAskedAll (g : Graph Item) (marks : List ℕ) (suspects part asked : List Item) : Type 0 where
  pub way : IsUnderWay g marks suspects part asked
  pub closed : IsClosed g marks suspects part
  pub least : IsLeast g marks suspects part

-- Nothing was left to be asked for by those of the suspects that are not among these further ones.
abbrev pub WasAsked : Graph Item → List ℕ → List Item → List Item → List Item → List Item → Type 0
WasAsked g marks suspects more part asked = (before : List Item) × HasAskedAll g marks before part asked × ((x : Item) → Contains suspects x ↔ (Contains before x ⊎ Contains more x))

-- a user, a role or PUBLIC, and not the system
abbrev pub IsGiver : Auth → Type 0
IsGiver System = ⊥
IsGiver a = Unit {0}

-- A right or a role authorization that a user or role gave: it asks by its own words, and by the roles of who gave it.
abbrev pub IsGiven : Item → Type 0
IsGiven (item.Held r) = IsGiver r.grantor
IsGiven (item.Grantable r) = IsGiver r.grantor
IsGiven (item.RoleAuth g) = Unit {0}
IsGiven (item.RoleAdmin g) = Unit {0}
IsGiven x = ⊥

-- a column is based on a domain
abbrev pub IsBased : Option Object → Type 0
IsBased None = ⊥
IsBased (Some domain) = Unit {0}

-- Others ask by the item: by a schema for its owner, by a view or a routine for what it needs, by a column for its domain, or for the column behind it where it is
-- one of a view of the part, and by a role authorization for the role.
abbrev pub Tells : List Item → Item → Type 0
Tells part (item.Schema z) = Unit {0}
Tells part (item.View v) = Unit {0}
Tells part (item.Column c) = IsBased c.domain ⊎ Has part (IsView c.table)
Tells part (item.Routine r) = Unit {0}
Tells part (item.RoleAuth g) = Unit {0}
Tells part x = ⊥

-- an item may ask by the other one, which is of the part
abbrev pub TellsTo : List Item → Item → Item → Type 0
TellsTo part x y = IsRoleAuthorization y ⊎ (Tells part y × (¬ (IsGiven x)))
