-- Role authorizations in the order of those whom the roles are granted to.
use Rattle.std.specs.Prelude.{◌≡◌, ◌<◌, ◌≤◌, ℕ, List, All, length}
use Rattle.std.specs.List.{Contains, HoldsAt}
use Rattle.std.specs.List.Sorted.{IsSortedBy}
use Rattle.std.specs.Ordering.{is_lt}
use Rattle.sql_names.specs.NameBytes.{NameBytes}
use Rattle.cat_items.specs.declared.item.RoleGrant.{RoleGrant}
use Rattle.cat_items.specs.declared.item.Item.{Item}
use Rattle.cat_items.specs.declared.item.Item.TheVariants.{RoleAuth}
use Rattle.cat_items.specs.Order.{name_cmp}
use Rattle.cat_items.specs.Reach.{GrantsRole, Has}
use Rattle.reached_roles.specs.declared.edges.Edge.{Edge}

-- a role authorization of the list
abbrev pub IsEdgeOf : List Item → Edge → Type 0
IsEdgeOf items e = Has items (GrantsRole e.role.now e.grantee.now)

abbrev pub HasEdge : List Edge → NameBytes → NameBytes → Type 0
HasEdge edges role grantee = (e : Edge) × Contains edges e × (e.role.now ≡ role) × (e.grantee.now ≡ grantee)

-- role authorizations of the list, among them each that stands before a place
pub record AreEdgesBelow (items : List Item) (edges : List Edge) (below : ℕ) : Type 0 where
  pub there : All (IsEdgeOf items) edges
  pub all : (k : ℕ) (g : RoleGrant) → k < below → k < length items → HoldsAt (λ x. x ≡ RoleAuth g) items k → HasEdge edges g.role g.grantee

-- the role authorizations of a list
abbrev pub AreEdges : List Item → List Edge → Type 0
AreEdges items edges = AreEdgesBelow items edges (length items)

abbrev pub AreByGrantee : List Edge → Type 0
AreByGrantee edges = IsSortedBy (λ a b. is_lt (name_cmp a.grantee.now b.grantee.now)) edges

-- the role authorizations of a list, by grantee
pub record AreListed (items : List Item) (edges : List Edge) : Type 0 where
  pub edges_are : AreEdges items edges
  pub order : AreByGrantee edges

-- the role authorization at this place is to this name
abbrev pub IsGrantedTo : List Edge → NameBytes → ℕ → Type 0
IsGrantedTo edges name k = (k < length edges) × HoldsAt (λ e. e.grantee.now ≡ name) edges k

-- the places of those to a name
pub record AreGrantedAt (edges : List Edge) (name : NameBytes) (from to : ℕ) : Type 0 where
  pub inside : (k : ℕ) → from ≤ k → k < to → IsGrantedTo edges name k
  pub outside : (k : ℕ) → IsGrantedTo edges name k → (from ≤ k) × (k < to)
