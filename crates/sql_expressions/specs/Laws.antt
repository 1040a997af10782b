-- Laws of the rules and their parsers.
use Rattle.std.specs.Prelude.{◌≡◌, ◌<◌, ◌++◌, ℕ, List, [], Some}
use Rattle.sql_words.specs.declared.word.Word.{Word}
use Rattle.sql_phrases.specs.Shapes.{Spelled}
use Rattle.sql_phrases.specs.Parsers.{Parser}
use Rattle.sql_expressions.specs.Depth.{most_open}

-- what is read is spelled so
abbrev pub ReadsOnlySpelled : {A : Type 0} → Parser A → Spelled A → Type 0
ReadsOnlySpelled {A} p R = (ws rest : List Word) (x : A) → p ws ≡ Some (x, rest) → R x ws rest

-- what words spell to their end is read
abbrev pub ReadsAllSpelled : {A : Type 0} → Parser A → Spelled A → Type 0
ReadsAllSpelled {A} p R = (ws : List Word) (x : A) → R x ws [] → p ws ≡ Some (x, [])

-- words spell at most one
abbrev pub IsUnambiguous : {A : Type 0} → Spelled A → Type 0
IsUnambiguous {A} R = (ws : List Word) (a b : A) → R a ws [] → R b ws [] → a ≡ b

-- within a number fewer brackets than it are open
abbrev pub CountsBrackets : {A : Type 0} → (ℕ → Spelled A) → Type 0
CountsBrackets {A} R = (n : ℕ) (x : A) (front rest : List Word) → R n x (front ++ rest) rest → most_open 0 front < n

-- what is spelled within any number is so within each number that more is than brackets are open
abbrev pub HasNoOtherLimit : {A : Type 0} → (ℕ → Spelled A) → Type 0
HasNoOtherLimit {A} R = (m n : ℕ) (x : A) (front rest : List Word) → R m x (front ++ rest) rest → most_open 0 front < n → R n x (front ++ rest) rest
