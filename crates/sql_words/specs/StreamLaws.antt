-- What a stream's texts and its rest are, by its division, and how they come from pieces of the stream.
use Rattle.std.specs.Prelude.{◌≡◌, ℕ, List, [], ◌++◌}
use Rattle.std.specs.List.{flat_map}
use Rattle.sql_words.specs.Division.{Part, Divides, texts_of, rest_of, are_blank}
use Rattle.sql_words.specs.Stream.{texts, rest, texts_from, rest_from, is_blank}

-- each stream has a division, and no other
abbrev pub EachStreamHasOneDivision : Type 0
EachStreamHasOneDivision = (b : List ℕ) → (ps : List Part) × Divides ps b × ((qs : List Part) → Divides qs b → qs ≡ ps)

-- the parts of a stream, joined, are the stream
abbrev pub PartsJoinToTheStream : Type 0
PartsJoinToTheStream = (b : List ℕ) (ps : List Part) → Divides ps b → flat_map (λ p. p.bytes) ps ≡ b

-- its texts and its rest are those of its parts
abbrev pub TextsAreThoseOfTheParts : Type 0
TextsAreThoseOfTheParts = (b : List ℕ) (ps : List Part) → Divides ps b → (texts b ≡ texts_of 0 [] ps) × (rest b ≡ rest_of 0 [] ps)

-- it is blank where each of its parts is
abbrev pub BlankByParts : Type 0
BlankByParts = (b : List ℕ) (ps : List Part) → Divides ps b → is_blank b ≡ are_blank ps

-- where more comes, the texts go on from the rest
abbrev pub PiecesCompose : Type 0
PiecesCompose = (held b more : List ℕ) → (texts_from held (b ++ more) ≡ texts_from held b ++ texts_from (rest_from held b) more)
    × (rest_from held (b ++ more) ≡ rest_from (rest_from held b) more)
