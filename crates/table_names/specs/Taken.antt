-- Numbers of the system's names that are marked where they aren't free: place k is for the number k + 1.
use Rattle.std.specs.Prelude.{◌≡◌, ◌⊎◌, ◌+◌, ℕ, Bool, List, Some, true, slice_get}
use Rattle.sql_names.specs.NameBytes.{NameBytes}
use Rattle.cat_items.specs.declared.item.Item.{Item}
use Rattle.cat_items.specs.Reach.{Has}
use Rattle.edit_rules.specs.Names.{IsConstraint}
use Rattle.table_names.specs.Named.{system_name}

abbrev pub IsMarkedAs : List Bool → ℕ → Type 0
IsMarkedAs taken place = slice_get taken place ≡ Some true

-- no other marks are new than those of such numbers
abbrev pub IsMarkedFor : (ℕ → Type 0) → List Bool → List Bool → Type 0
IsMarkedFor P old new = (place : ℕ) → IsMarkedAs new place → IsMarkedAs old place ⊎ P (place + 1)

-- a constraint of a schema that has the system's name of a number
abbrev pub IsNumberOf : NameBytes → Item → ℕ → Type 0
IsNumberOf schema x number = IsConstraint (record { schema = schema; name = system_name number }) x

-- of each marked number a constraint has the name
abbrev pub AreOfConstraints : List Item → NameBytes → List Bool → Type 0
AreOfConstraints c schema taken = (place : ℕ) → IsMarkedAs taken place → Has c (λ x. IsNumberOf schema x (place + 1))

-- of each marked number the name isn't free
abbrev pub AreTaken : (NameBytes → Type 0) → List Bool → Type 0
AreTaken Free taken = (place : ℕ) → IsMarkedAs taken place → ¬ (Free (system_name (place + 1)))
