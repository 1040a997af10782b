-- Cycles of role authorizations.
use Rattle.std.specs.Prelude.{◌≡◌, ◌⊎◌, ℕ, List, [], ◌∷◌}
use Rattle.std.specs.List.{Contains}
use Rattle.cat_items.specs.declared.item.Item.{Item}
use Rattle.cat_items.specs.declared.need.Auth.TheVariants.{Named}
use Rattle.cat_items.specs.Reach.{Has, GrantsRole, Reaches}

-- steps lead from a name, role by role, to another
abbrev pub StepsLead : (List ℕ → List ℕ → Type 0) → List ℕ → List (List ℕ) → List ℕ → Type 0
StepsLead step from [] to = from ≡ to
StepsLead step from (role ∷ roles) to = step from role × StepsLead step role roles to

-- one or more steps lead from some name back to itself
abbrev pub HasCycle : (List ℕ → List ℕ → Type 0) → Type 0
HasCycle step = (name role : List ℕ) × (roles : List (List ℕ)) × StepsLead step name (role ∷ roles) name

-- from a grantee to its role: by a role authorization of the list, or by one of these roles granted to each of these grantees
abbrev pub IsStep : List Item → List (List ℕ) → List (List ℕ) → List ℕ → List ℕ → Type 0
IsStep s roles grantees from role = Has s (GrantsRole role from) ⊎ (Contains roles role × Contains grantees from)

-- a role authorization whose role reaches its grantee
abbrev pub Closes : List Item → List ℕ → List ℕ → Type 0
Closes s role grantee = Has s (GrantsRole role grantee) × Reaches s (Named role) (Named grantee)

-- a role of these that reaches a grantee of these
abbrev pub SomeReaches : List Item → List (List ℕ) → List (List ℕ) → Type 0
SomeReaches s roles grantees = (role grantee : List ℕ) × Contains roles role × Contains grantees grantee × Reaches s (Named role) (Named grantee)
