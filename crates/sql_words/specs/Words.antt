-- The words of a text: its tokens from left to right, without the white space and the comments between them.
use Rattle.std.specs.Prelude.{Bool, true, false, not, ◌==◌, ◌&&◌, ◌||◌, if◌then◌else◌, nat_le, ℕ, zero, suc, ◌+◌, ◌-◌, List, [], ◌∷◌, take, drop, map, length, slice_index, Option, Some, None, Result, Ok, Err}
use Rattle.std.specs.Char.{is_ascii_alphabetic, is_ascii_digit, to_ascii_uppercase}
use Rattle.std.specs.List.{prefix_len}
use Rattle.std.specs.Option.{option_map, option_and_then}
use Rattle.std.specs.Str.{is_utf8}
use Rattle.sql_words.specs.Division.{Extent, front, is_blank_part, is_run_byte}
use Rattle.sql_words.specs.declared.word.Symbol.{Symbol}
use Rattle.sql_words.specs.declared.word.Symbol.TheVariants as s
use Rattle.sql_words.specs.declared.word.Word.{Word}
use Rattle.sql_words.specs.declared.word.Word.TheVariants as w

-- a token at the front of a text: its word, and how many bytes it has
pub record Token : Type 0 where
  pub word : Word
  pub size : ℕ

-- how many bytes a comment has that is closed, and none for one that isn't
abbrev pub closed_size : Extent → ℕ
closed_size extent = if is_blank_part extent.form [] then extent.size else 0

-- how many bytes of white space or of a comment stand at the front
unfoldable pub gap : List ℕ → ℕ
gap b = if is_blank_part (front b).form (take (front b).size b) then (front b).size else 0

-- a name in plain letters, in upper case
unfoldable pub plain_token : List ℕ → Option Token
plain_token text = let size = prefix_len is_run_byte text in
    if nat_le size 128 then Some (record { word = w.Plain (map to_ascii_uppercase (take size text)); size = size }) else None

-- the digits behind a point that stands at the front
abbrev pub fraction : List ℕ → ℕ
fraction text = if slice_index text 0 == 46 then prefix_len is_ascii_digit (drop 1 text) else 0

-- a letter or an underscore
abbrev pub goes_on : ℕ → Bool
goes_on c = is_ascii_alphabetic c || (c == 95)

-- digits, or digits, a point and digits; at most 38 in all, and no letter and no underscore right behind
unfoldable pub number_token : List ℕ → Option Token
number_token text =
    let whole = prefix_len is_ascii_digit text in
    let part = fraction (drop whole text) in
    let size = if part == 0 then whole else whole + (part + 1) in
    let next = slice_index text size in
    if nat_le (whole + part) 38 && not (goes_on next) then Some (record { word = w.Number (take size text); size = size }) else None

-- how many bytes there are behind an opening quote, up to and with the quote that closes, where a quote may stand just before;
-- a quote after a quote doesn't close
abbrev pub quoted_size : ℕ → Bool → List ℕ → Option ℕ
quoted_size quote true [] = Some 0
quoted_size quote false [] = None
quoted_size quote true (c ∷ b) = if c == quote then option_map (λ n. suc n) (quoted_size quote false b) else Some 0
quoted_size quote false (c ∷ b) = option_map (λ n. suc n) (quoted_size quote (c == quote) b)

-- each doubled quote as one, where the first of two may have come just before
abbrev pub undoubled : ℕ → Bool → List ℕ → List ℕ
undoubled quote doubled [] = []
undoubled quote true (c ∷ b) = undoubled quote false b
undoubled quote false (c ∷ b) = c ∷ undoubled quote (c == quote) b

-- what stands between quotes, of which the first came just before, and how many bytes it has with both quotes; it is UTF-8
abbrev pub text_of_quoted : List ℕ → ℕ → Option (List ℕ × ℕ)
text_of_quoted inside size = if is_utf8 inside then Some (inside, size) else None

unfoldable pub quoted_text : ℕ → List ℕ → Option (List ℕ × ℕ)
quoted_text quote b = option_and_then (λ size. text_of_quoted (undoubled quote false (take (size - 1) b)) (size + 1)) (quoted_size quote false b)

abbrev pub literal_token : List ℕ → Option Token
literal_token b = option_map (λ p. record { word = w.Literal p.0; size = p.1 }) (quoted_text 39 b)

-- a quoted name has 1 to 128 bytes
abbrev pub quoted_token : List ℕ → Option Token
quoted_token b = option_and_then (λ p. if nat_le 1 (length p.0) && nat_le (length p.0) 128 then Some (record { word = w.Quoted p.0; size = p.1 }) else None) (quoted_text 34 b)

abbrev pub symbol_token : Symbol → ℕ → Option Token
symbol_token symbol size = Some (record { word = w.Symbol symbol; size = size })

-- the symbol that begins with a byte, by the byte behind it: the longest one
unfoldable pub symbol_at : ℕ → ℕ → Option Token
symbol_at c next =
    if c == 40 then symbol_token s.LeftParen 1
    else (if c == 41 then symbol_token s.RightParen 1
    else (if c == 44 then symbol_token s.Comma 1
    else (if c == 46 then symbol_token s.Period 1
    else (if c == 59 then symbol_token s.Semicolon 1
    else (if c == 61 then symbol_token s.Equals 1
    else (if c == 60 then (if next == 62 then symbol_token s.NotEquals 2 else (if next == 61 then symbol_token s.LessThanOrEquals 2 else symbol_token s.LessThan 1))
    else (if c == 62 then (if next == 61 then symbol_token s.GreaterThanOrEquals 2 else symbol_token s.GreaterThan 1)
    else (if c == 43 then symbol_token s.PlusSign 1
    else (if c == 45 then symbol_token s.MinusSign 1
    else (if c == 42 then symbol_token s.Asterisk 1
    else (if c == 47 then (if next == 42 then None else symbol_token s.Solidus 1)
    else (if c == 124 then (if next == 124 then symbol_token s.Concatenation 2 else None)
    else None))))))))))))

-- the longest token at the front of a text
unfoldable pub token : List ℕ → Option Token
token [] = None
token (c ∷ b) =
    if is_ascii_alphabetic c then plain_token (c ∷ b)
    else (if is_ascii_digit c then number_token (c ∷ b)
    else (if c == 39 then literal_token b
    else (if c == 34 then quoted_token b
    else symbol_at c (slice_index b 0))))

-- a word in front of the others
abbrev pub word_before : Word → Result (List Word) ℕ → Result (List Word) ℕ
word_before word (Ok words) = Ok (word ∷ words)
word_before word (Err at) = Err at

-- the words from a place on, behind so many bytes that belong to what stands before; or the place of the first piece that is no token
abbrev pub words_from : ℕ → ℕ → List ℕ → Result (List Word) ℕ
words_from skip at [] = Ok []
words_from (suc skip) at (c ∷ b) = words_from skip (at + 1) b
words_from zero at (c ∷ b) = elim (gap (c ∷ b)) [
  | suc more ↦ words_from more (at + 1) b
  | zero ↦ elim (token (c ∷ b)) [ None ↦ Err at | Some t ↦ word_before t.word (words_from (t.size - 1) (at + 1) b) ]
]

-- the words of a text
abbrev pub words_of : List ℕ → Result (List Word) ℕ
words_of text = words_from zero 0 text
