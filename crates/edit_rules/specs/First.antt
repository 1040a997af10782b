-- The first of some tests that refuses.
use Rattle.std.specs.Prelude.{◌⊎◌, List, [], ◌∷◌, ◌++◌}
use Rattle.std.specs.declared.result.Result.{Result}
use Rattle.std.specs.declared.result.Result.TheVariants.{Ok, Err}
use Rattle.cat_items.specs.declared.edit.EditError.{EditError}
use Rattle.cat_items.specs.declared.edit.EditError.TheVariants.{Refused, Memory}
use Rattle.cat_items.specs.declared.edit.Refusal.{Refusal}

-- a test refuses with no refusal
abbrev pub Passes : (Refusal → Type 0) → Type 0
Passes test = (refusal : Refusal) → ¬ (test refusal)

-- the tests of each member, one after the other
abbrev pub tests_of : {X : Type 0} → (X → List (Refusal → Type 0)) → List X → List (Refusal → Type 0)
tests_of tests [] = []
tests_of tests (x ∷ xs) = tests x ++ tests_of tests xs

-- the refusal is that of the first test that refuses
abbrev pub First : List (Refusal → Type 0) → Refusal → Type 0
First [] refusal = ⊥
First (test ∷ tests) refusal = test refusal ⊎ (Passes test × First tests refusal)

-- what comes of something that is done where the tests pass, and that leaves all as it is where it isn't done
abbrev pub Tested : {T : Type 0} → List (Refusal → Type 0) → (T → Type 0) → Type 0 → Result T EditError → Type 0
Tested tests Done same (Ok value) = Passes (First tests) × Done value
Tested tests Done same (Err (Refused refusal)) = First tests refusal × same
Tested tests Done same (Err Memory) = same

-- the same where nothing could change
abbrev pub IsTested : {T : Type 0} → List (Refusal → Type 0) → (T → Type 0) → Result T EditError → Type 0
IsTested tests Done result = Tested tests Done (Unit {0}) result

-- what comes of the tests alone
abbrev pub HasPassed : {T : Type 0} → List (Refusal → Type 0) → Result T EditError → Type 0
HasPassed tests result = Tested tests (λ value. Unit {0}) (Unit {0}) result
