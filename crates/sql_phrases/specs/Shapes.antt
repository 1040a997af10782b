-- The shapes of which the rules of the grammar are made. Each relates what is spelled, the words that begin with it, and the words after it.
use Rattle.std.specs.Prelude.{◌≡◌, ℕ, Bool, true, false, List, [], ◌∷◌, Option, Some, None}
use Rattle.sql_words.specs.Kinds.{kind_of, text_of}
use Rattle.sql_spelling.specs.declared.kind.Kind.{Kind}
use Rattle.sql_words.specs.declared.word.Word.{Word}

abbrev pub Spelled : Type 0 → Type 1
Spelled A = A → List Word → List Word → Type 0

-- one word of this kind
pub data Token (by : Kind) : List Word → List Word → Type 0 where
  token : {w : Word} {rest : List Word} → kind_of w ≡ by → Token by (w ∷ rest) rest

-- one word of this kind, with its text
pub data SpellsText (by : Kind) : List ℕ → List Word → List Word → Type 0 where
  spells : {w : Word} {rest : List Word} → kind_of w ≡ by → SpellsText by (text_of w) (w ∷ rest) rest

-- x separator x .. separator x
pub data Separated {A : Type 0} (by : Kind) (R : Spelled A) : List A → List Word → List Word → Type 0 where
  one : {x : A} {ws rest : List Word} → R x ws rest → Separated by R (x ∷ []) ws rest
  more : {x : A} {xs : List A} {ws a b rest : List Word} → R x ws a → Token by a b → Separated by R xs b rest → Separated by R (x ∷ xs) ws rest

-- {x}
pub data Repeated {A : Type 0} (R : Spelled A) : List A → List Word → List Word → Type 0 where
  no_more : {ws : List Word} → Repeated R [] ws ws
  again : {x : A} {xs : List A} {ws a rest : List Word} → R x ws a → Repeated R xs a rest → Repeated R (x ∷ xs) ws rest

-- [word x]
pub data Optional {A : Type 0} (by : Kind) (R : Spelled A) : Option A → List Word → List Word → Type 0 where
  left_out : {ws : List Word} → Optional by R None ws ws
  said : {x : A} {ws a rest : List Word} → Token by ws a → R x a rest → Optional by R (Some x) ws rest

-- [word], and whether it stands there
pub data Marked (by : Kind) : Bool → List Word → List Word → Type 0 where
  absent : {ws : List Word} → Marked by false ws ws
  present : {ws rest : List Word} → Token by ws rest → Marked by true ws rest
