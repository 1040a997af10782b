-- The words that texts have, and the bytes that spell them.
use Rattle.std.specs.Prelude.{◌≡◌, ◌<◌, ◌≤◌, ◌==◌, ◌||◌, if◌then◌else◌, Bool, true, ℕ, ◌+◌, List, [], ◌∷◌, ◌++◌, length, map, take, slice_index, codes, Some, Ok, IsUtf8}
use Rattle.std.specs.Char.{is_ascii_uppercase, is_ascii_digit, to_ascii_uppercase}
use Rattle.std.specs.List.{list_all}
use Rattle.sql_words.specs.Words.{Token, token, words_of}
use Rattle.sql_words.specs.declared.word.Symbol.{Symbol}
use Rattle.sql_words.specs.declared.word.Symbol.TheVariants as s
use Rattle.sql_words.specs.declared.word.Word.{Word}
use Rattle.sql_words.specs.declared.word.Word.TheVariants as w

-- a letter in upper case, a digit or an underscore
abbrev pub is_plain_byte : ℕ → Bool
is_plain_byte c = is_ascii_uppercase c || is_ascii_digit c || (c == 95)

pub record IsPlain (text : List ℕ) : Type 0 where
  pub letter : is_ascii_uppercase (slice_index text 0) ≡ true
  pub bytes : list_all is_plain_byte text ≡ true
  pub few : length text ≤ 128

pub record IsQuoted (text : List ℕ) : Type 0 where
  pub some : 1 ≤ length text
  pub few : length text ≤ 128
  pub utf8 : IsUtf8 text

-- a point in front of the digits behind it, if there are any
abbrev pub pointed : List ℕ → List ℕ
pointed [] = []
pointed (c ∷ digits) = 46 ∷ c ∷ digits

pub record IsNumber (text : List ℕ) : Type 0 where
  pub whole : List ℕ
  pub part : List ℕ
  pub is : text ≡ whole ++ pointed part
  pub some : 0 < length whole
  pub digits : list_all is_ascii_digit whole ≡ true
  pub part_digits : list_all is_ascii_digit part ≡ true
  pub few : length whole + length part ≤ 38

-- a word that a text can have
abbrev pub IsWord : Word → Type 0
IsWord (w.Plain text) = IsPlain text
IsWord (w.Quoted text) = IsQuoted text
IsWord (w.Literal text) = IsUtf8 text
IsWord (w.Number text) = IsNumber text
IsWord (w.Symbol symbol) = Unit {0}

abbrev pub symbol_text : Symbol → List ℕ
symbol_text s.LeftParen = codes "("
symbol_text s.RightParen = codes ")"
symbol_text s.Comma = codes ","
symbol_text s.Period = codes "."
symbol_text s.Semicolon = codes ";"
symbol_text s.Equals = codes "="
symbol_text s.NotEquals = codes "<>"
symbol_text s.LessThan = codes "<"
symbol_text s.LessThanOrEquals = codes "<="
symbol_text s.GreaterThan = codes ">"
symbol_text s.GreaterThanOrEquals = codes ">="
symbol_text s.PlusSign = codes "+"
symbol_text s.MinusSign = codes "-"
symbol_text s.Asterisk = codes "*"
symbol_text s.Solidus = codes "/"
symbol_text s.Concatenation = codes "||"

-- each quote twice
abbrev pub doubled : ℕ → List ℕ → List ℕ
doubled quote [] = []
doubled quote (c ∷ text) = if c == quote then c ∷ c ∷ doubled quote text else c ∷ doubled quote text

-- the bytes that spell a word
abbrev pub spelling : Word → List ℕ
spelling (w.Plain text) = text
spelling (w.Quoted text) = 34 ∷ (doubled 34 text ++ 34 ∷ [])
spelling (w.Literal text) = 39 ∷ (doubled 39 text ++ 39 ∷ [])
spelling (w.Number text) = text
spelling (w.Symbol symbol) = symbol_text symbol

-- these bytes spell the word: those of a plain one in any case of letters
abbrev pub Spells : Word → List ℕ → Type 0
Spells (w.Plain text) bytes = map to_ascii_uppercase bytes ≡ text
Spells word bytes = bytes ≡ spelling word

-- the bytes of a token spell its word, which is one that texts have
abbrev pub TokensSpellTheirWords : Type 0
TokensSpellTheirWords = (text : List ℕ) (t : Token) → token text ≡ Some t → IsWord t.word × Spells t.word (take t.size text)

abbrev pub AreWords : List Word → Type 0
AreWords [] = Unit {0}
AreWords (word ∷ words) = IsWord word × AreWords words

abbrev pub TextsHaveWords : Type 0
TextsHaveWords = (text : List ℕ) (words : List Word) → words_of text ≡ Ok words → AreWords words

-- words one after the other, each with a space behind it
abbrev pub spaced : List Word → List ℕ
spaced [] = []
spaced (word ∷ words) = spelling word ++ 32 ∷ spaced words

-- each list of words is that of the text that spells them
abbrev pub SpelledWordsAreRead : Type 0
SpelledWordsAreRead = (words : List Word) → AreWords words → words_of (spaced words) ≡ Ok words
