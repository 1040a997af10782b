-- Survivors as a function: a chain that grows as long as some item is supported.
use Rattle.std.specs.Prelude.{◌≡◌, ℕ, zero, suc, Bool, true, cond, List, [], ◌∷◌, length}
use Rattle.std.specs.List.{filter, list_any}

-- what is left after the first item that passes
abbrev pub without_first : {X : Type 0} → (X → Bool) → List X → List X
without_first test [] = []
without_first test (x ∷ xs) = cond (test x) xs (x ∷ without_first test xs)

-- the chain with the first item that passes before it, or the chain where none passes
abbrev pub with_first : {X : Type 0} → (X → Bool) → List X → List X → List X
with_first test [] chain = chain
with_first test (x ∷ xs) chain = cond (test x) (x ∷ chain) (with_first test xs chain)

-- at most n more items of those that are left, each supported by the chain before it
abbrev pub grown : {X : Type 0} → (List X → X → Bool) → ℕ → List X → List X → List X
grown test zero left chain = chain
grown test (suc n) left chain = grown test n (without_first (test chain) left) (with_first (test chain) left chain)

-- the survivors, in the list's order
abbrev pub survivors : {X : Type 0} → (X → X → Bool) → (List X → X → Bool) → List X → List X
survivors same test c = filter (λ x. list_any (same x) (grown test (length c) c [])) c

-- Where a test stands for support.
abbrev pub IsTest : {X : Type 0} → (List X → X → Type 0) → (List X → X → Bool) → Type 0
IsTest {X} sup test = (s : List X) (x : X) → (test s x ≡ true → sup s x) × (sup s x → test s x ≡ true)
