-- Classes of bytes, and what reading a token gives.
use Rattle.std.specs.Prelude.{◌≡◌, Bool, ℕ, List, Option}
use Rattle.std.specs.Char.{is_ascii_digit}
use Rattle.std.specs.Option.{option_map}
use Rattle.std.specs.declared.alloc.Global.{Global}
use Rattle.std.specs.declared.vec.Vec.{Vec}
use Rattle.sql_words.specs.Division.{is_run_byte}
use Rattle.sql_words.specs.Words.{Token}
use Rattle.sql_words.specs.declared.tokens.Class.{Class}
use Rattle.sql_words.specs.declared.tokens.Class.TheVariants as class
use Rattle.sql_words.specs.declared.word.Word.{Word}

abbrev pub is_in : Class → ℕ → Bool
is_in class.Digit c = is_ascii_digit c
is_in class.Run c = is_run_byte c

-- a word and its size are this token
abbrev pub IsToken : Option Token → Option (Word × ℕ) → Type 0
IsToken token found = token ≡ option_map (λ p. record { word = p.0; size = p.1 }) found

-- what stands between quotes, and its size
abbrev pub IsQuoted : Option (List ℕ × ℕ) → Option (Vec ℕ Global × ℕ) → Type 0
IsQuoted text found = text ≡ option_map (λ p. (p.0.items, p.1)) found
