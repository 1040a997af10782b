-- Role authorizations that lead on from a name.
use Rattle.std.specs.Prelude.{◌≡◌, ◌<◌, ◌↔◌, ℕ, List, length}
use Rattle.std.specs.List.{Contains, HoldsAt}
use Rattle.sql_names.specs.NameBytes.{NameBytes}
use Rattle.cat_items.specs.declared.item.Item.{Item}
use Rattle.role_graph.specs.Roles.{IsApplicable}
use Rattle.role_graph.specs.Trails.{GrewBy}
use Rattle.reached_roles.specs.declared.edges.Edge.{Edge}
use Rattle.reached_roles.specs.Edges.{AreEdges, IsGrantedTo}

-- the places have grown at their end by those of the role authorizations to a name, and have all of these
pub record GainsGrantedTo (edges : List Edge) (name : NameBytes) (old new : List ℕ) : Type 0 where
  pub grown : GrewBy (IsGrantedTo edges name) old new
  pub all : (k : ℕ) → IsGrantedTo edges name k → Contains new k

abbrev pub IsOfRole : List Edge → NameBytes → ℕ → Type 0
IsOfRole edges role k = (k < length edges) × HoldsAt (λ e. e.role.now ≡ role) edges k

abbrev pub HasOfRole : List Edge → List ℕ → NameBytes → Type 0
HasOfRole edges found role = (k : ℕ) × Contains found k × IsOfRole edges role k

-- places within the list, of role authorizations of those roles that others of them lead to from a name
pub record AreFoundFrom (edges : List Edge) (from : NameBytes) (found : List ℕ) : Type 0 where
  pub within : (k : ℕ) → Contains found k → k < length edges
  pub reached : (items : List Item) → AreEdges items edges → (role : NameBytes) → HasOfRole edges found role ↔ IsApplicable items from role
