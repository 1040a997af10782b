-- The roles of a session (enabled and applicable roles, SQL:2003 part 2, 4.34).
use Rattle.std.specs.Prelude.{◌≡◌, ◌↔◌, ◌+◌, ◌≤◌, ℕ, List, ◌∷◌, Option, Some, None}
use Rattle.std.specs.List.{AllPairs, Contains}
use Rattle.std.specs.declared.cmp.Ordering.TheVariants.{Less}
use Rattle.cat_items.specs.declared.need.Auth.TheVariants.{Named}
use Rattle.cat_items.specs.declared.item.Item.{Item}
use Rattle.cat_items.specs.Order.{name_cmp}
use Rattle.cat_items.specs.Ranges.{IsRange, IsRoleAuthorization}
use Rattle.cat_items.specs.Reach.{Has, Leads, Reaches}

-- one or more role authorizations lead from a name, role by role, to a role
abbrev pub IsApplicable : List Item → List ℕ → List ℕ → Type 0
IsApplicable s from to = (role : List ℕ) × (roles : List (List ℕ)) × Leads s from (role ∷ roles) to

-- the role that is set, where the user reaches it, and all roles that it reaches
abbrev pub IsEnabled : List Item → List ℕ → Option (List ℕ) → List ℕ → Type 0
IsEnabled s user None role = ⊥
IsEnabled s user (Some set) role = Reaches s (Named user) (Named set) × Reaches s (Named set) (Named role)

-- names by bytes, each once
abbrev pub AreInOrder : List (List ℕ) → Type 0
AreInOrder names = AllPairs (λ a b. name_cmp a b ≡ Less) names

-- the names that are so, in order and each once
pub record AreNames (names : List (List ℕ)) (P : List ℕ → Type 0) : Type 0 where
  pub order : AreInOrder names
  pub members : (name : List ℕ) → Contains names name ↔ P name

-- room for each role authorization of a list
abbrev pub IsRoomFor : ℕ → List Item → Type 0
IsRoomFor room items = (from to : ℕ) → IsRange items from to IsRoleAuthorization → to ≤ from + room

-- no item of the list is a role authorization
abbrev pub HasNoRoleAuthorization : List Item → Type 0
HasNoRoleAuthorization items = Has items IsRoleAuthorization → ⊥
