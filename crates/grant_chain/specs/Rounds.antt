-- Marks of what is found to survive.
use Rattle.std.specs.Prelude.{◌≡◌, ℕ, Bool, true, false, List, All, slice_index_or, slice_set}
use Rattle.finite_chains.specs.Chains.{IsClosed, Survives}
use Rattle.role_graph.specs.Marked.{marked}

-- each marked item survives
abbrev pub Survive : {X : Type 0} → (List X → X → Type 0) → List X → List Bool → Type 0
Survive sup xs marks = All (Survives sup xs) (marked xs marks)

-- each item that the marked ones support is marked
abbrev pub HaveClosed : {X : Type 0} → (List X → X → Type 0) → List X → List Bool → Type 0
HaveClosed sup xs marks = IsClosed sup xs (marked xs marks)

-- The place was marked, since its item wasn't and the marked ones support it; or all marks stay, since it was marked or isn't supported.
abbrev pub IsTried : {X : Type 0} → (List X → X → Type 0) → List X → List Bool → ℕ → Bool → List Bool → Type 0
IsTried {X} sup xs marks at true new = (slice_index_or marks at false ≡ false) × ((d : X) → sup (marked xs marks) (slice_index_or xs at d)) × (new ≡ slice_set marks at true)
IsTried {X} sup xs marks at false new = (new ≡ marks) × (slice_index_or marks at false ≡ false → (d : X) → sup (marked xs marks) (slice_index_or xs at d) → ⊥)
