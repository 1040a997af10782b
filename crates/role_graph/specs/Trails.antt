-- The walk back from a role to those whom it is granted to.
use Rattle.std.specs.Prelude.{◌≡◌, ◌≢◌, ◌+◌, ◌<◌, ◌≤◌, ℕ, Bool, true, false, not, List, ◌++◌, Option, length, slice_index_or}
use Rattle.std.specs.List.{All, Contains, HoldsAt, count_by}
use Rattle.cat_items.specs.declared.item.RoleGrant.{RoleGrant}
use Rattle.cat_items.specs.declared.item.Item.{Item}
use Rattle.cat_items.specs.declared.item.Item.TheVariants.{RoleAuth}
use Rattle.role_graph.specs.Marked.{counts}

-- the role authorization at this place, which counts
pub record IsGrantAt (items : List Item) (marks : Option (List Bool)) (k : ℕ) (g : RoleGrant) : Type 0 where
  pub within : k < length items
  pub counts_there : counts marks k ≡ true
  pub is : HoldsAt (λ x. x ≡ RoleAuth g) items k

-- each role authorization that counts and is of this role has been found
abbrev pub HasGrantsOf : List Item → Option (List Bool) → List ℕ → List ℕ → Type 0
HasGrantsOf items marks role found = (k : ℕ) (g : RoleGrant) → IsGrantAt items marks k g → g.role ≡ role → Contains found k

-- a role authorization of this role that counts, and to someone else
abbrev pub IsGrantElsewhere : List Item → Option (List Bool) → List ℕ → List ℕ → ℕ → Type 0
IsGrantElsewhere items marks role sought k = (g : RoleGrant) × IsGrantAt items marks k g × (g.role ≡ role) × (g.grantee ≢ sought)

-- this role is granted to the one who is sought
abbrev pub IsGranted : List Item → Option (List Bool) → List ℕ → List ℕ → Type 0
IsGranted items marks role sought = (k : ℕ) × (g : RoleGrant) × IsGrantAt items marks k g × (g.role ≡ role) × (g.grantee ≡ sought)

-- places, and flags that tell them, where the first flag is that of the place `first`
pub record IsTrail (first : ℕ) (seen : List Bool) (found : List ℕ) : Type 0 where
  pub count : length found + count_by not seen ≡ length seen
  pub within : (k : ℕ) → Contains found k → (first ≤ k) × (k < first + length seen)
  pub told : (k : ℕ) → slice_index_or seen k false ≡ true → Contains found (first + k)

-- no flag is set
abbrev pub AreClear : List Bool → Type 0
AreClear seen = (k : ℕ) → slice_index_or seen k false ≡ false

-- the list has grown at its end by elements that are so
abbrev pub GrewBy : {X : Type 0} → (X → Type 0) → List X → List X → Type 0
GrewBy {X} P old new = (more : List X) × (new ≡ old ++ more) × All P more

-- each role authorization of the list has a flag
abbrev pub HaveFlags : ℕ → ℕ → List Item → Type 0
HaveFlags first n items = (k : ℕ) (g : RoleGrant) → k < length items → HoldsAt (λ x. x ≡ RoleAuth g) items k → (first ≤ k) × (k < first + n)
