-- Finite chains of support, over any type of items and any relation of support.
use Rattle.std.specs.Prelude.{◌↔◌, List, [], ◌∷◌}
use Rattle.std.specs.List.{Contains}

-- each item of s is in t
abbrev pub IsWithin : {X : Type 0} → List X → List X → Type 0
IsWithin {X} s t = (y : X) → Contains s y → Contains t y

-- a chain of c, the newest item first: each is in c, and the earlier ones support it
abbrev pub IsChain : {X : Type 0} → (List X → X → Type 0) → List X → List X → Type 0
IsChain sup c [] = Unit {0}
IsChain sup c (x ∷ earlier) = Contains c x × sup earlier x × IsChain sup c earlier

-- some chain of c has it
abbrev pub Survives : {X : Type 0} → (List X → X → Type 0) → List X → X → Type 0
Survives {X} sup c x = (chain : List X) × IsChain sup c chain × Contains chain x

-- f has exactly the survivors of c
abbrev pub HasSurvivors : {X : Type 0} → (List X → X → Type 0) → List X → List X → Type 0
HasSurvivors {X} sup c f = (x : X) → Contains f x ↔ Survives sup c x

-- what supports an item goes on to support it where there are more items
pub record IsMonotone {X : Type 0} (sup : List X → X → Type 0) : Type 0 where
  pub more : (s t : List X) (x : X) → IsWithin s t → sup s x → sup t x

-- each item of c that f supports is in f
abbrev pub IsClosed : {X : Type 0} → (List X → X → Type 0) → List X → List X → Type 0
IsClosed {X} sup c f = (x : X) → Contains c x → sup f x → Contains f x

-- Where support is that of a larger list a and of its part b: what b supports, a supports; and what items of n support in a of n, they support in b.
pub record Agree {X : Type 0} (in_a in_b : List X → X → Type 0) (a b n : List X) : Type 0 where
  pub part : IsWithin b a
  pub survivors : IsWithin n b
  pub up : (s : List X) (x : X) → IsWithin s b → Contains b x → in_b s x → in_a s x
  pub down : (s : List X) (x : X) → IsWithin s n → Contains n x → in_a s x → in_b s x
