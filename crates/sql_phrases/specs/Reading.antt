-- The words that are left, as the grammar sees them.
use Rattle.std.specs.Prelude.{ℕ, Bool, List, [], ◌∷◌, if◌then◌else◌}
use Rattle.sql_spelling.specs.Kinds.{same_kind}
use Rattle.sql_words.specs.Kinds.{kind_of, text_of}
use Rattle.sql_spelling.specs.declared.kind.Kind.{Kind}
use Rattle.sql_spelling.specs.declared.kind.Kind.TheVariants as k
use Rattle.sql_words.specs.declared.word.Word.{Word}

-- the kind of the next word
abbrev pub peek : List Word → Kind
peek [] = k.EndOfText
peek (w ∷ ws) = kind_of w

-- the text of the next word
abbrev pub spelling : List Word → List ℕ
spelling [] = []
spelling (w ∷ ws) = text_of w

abbrev pub next : List Word → List Word
next [] = []
next (w ∷ ws) = ws

-- a word of this kind comes next
unfoldable pub sees : Kind → List Word → Bool
sees k ws = same_kind (peek ws) k

-- the words after a word of this kind, where one comes next
unfoldable pub after : Kind → List Word → List Word
after k ws = if sees k ws then next ws else ws
