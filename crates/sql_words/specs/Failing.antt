-- How reading a text fails.
use Rattle.std.specs.Prelude.{◌≡◌, ℕ, List, Result, Err}
use Rattle.sql_words.specs.declared.word.Word.{Word}
use Rattle.sql_words.specs.declared.reading.WordsError.{WordsError}
use Rattle.sql_words.specs.declared.reading.WordsError.TheVariants.{BadToken, Memory}

-- a bad token is at its place, and want of memory may always come
abbrev pub FailsAt : Result (List Word) ℕ → WordsError → Type 0
FailsAt words (BadToken offset) = words ≡ Err offset
FailsAt words Memory = Unit {0}
