-- Which words are reserved.
use Rattle.std.specs.Prelude.{◌≡◌, not, ℕ, List}
use Rattle.sql_spelling.specs.Keywords.{is_reserved_word}
use Rattle.sql_spelling.specs.Kinds.{keyword, is_reserved, is_name}

-- a plain word has the kind of a reserved word where it is one, and stands for a name where it isn't
abbrev pub ReservedWordsAreNoNames : Type 0
ReservedWordsAreNoNames = (text : List ℕ) → (is_reserved (keyword text) ≡ is_reserved_word text) × (is_name (keyword text) ≡ not (is_reserved_word text))
