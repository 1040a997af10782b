-- Data types, defaults and parameters.
use Rattle.std.specs.Prelude.{◌≡◌, ◌<◌, ◌≤◌, ℕ, Bool, true, ◌+◌, ◌*◌, ◌-◌, List, [], ◌∷◌}
use Rattle.std.specs.Char.{is_ascii_digit}
use Rattle.std.specs.List.{list_all}
use Rattle.sql_names.specs.declared.sort.Default.{Default}
use Rattle.sql_names.specs.declared.sort.Default.TheVariants as defaults
use Rattle.sql_names.specs.declared.sort.Special.{Special}
use Rattle.sql_names.specs.declared.sort.Special.TheVariants as specials
use Rattle.sql_names.specs.declared.sort.SqlType.{SqlType}
use Rattle.sql_names.specs.declared.sort.SqlType.TheVariants as types
use Rattle.sql_spelling.specs.declared.kind.Kind.TheVariants as k
use Rattle.sql_words.specs.declared.word.Word.{Word}
use Rattle.sql_phrases.specs.Shapes.{Token, SpellsText, Marked}

-- the number that these digits write, after a number that stands before them
abbrev pub number_from : ℕ → List ℕ → ℕ
number_from n [] = n
number_from n (c ∷ digits) = number_from (n * 10 + (c - 48)) digits

-- a number without a point, between two bounds
pub data SpellsNumber (low high : ℕ) : ℕ → List Word → List Word → Type 0 where
  number : {t : List ℕ} {ws rest : List Word} → SpellsText k.Number t ws rest → list_all is_ascii_digit t ≡ true → low ≤ number_from 0 t → number_from 0 t ≤ high
      → SpellsNumber low high (number_from 0 t) ws rest

-- CHARACTER | CHAR
pub data SpellsCharacterWord : List Word → List Word → Type 0 where
  character_word : {ws rest : List Word} → Token k.Character ws rest → SpellsCharacterWord ws rest
  char_word : {ws rest : List Word} → Token k.Char ws rest → SpellsCharacterWord ws rest

-- DECIMAL | DEC
pub data SpellsDecimalWord : List Word → List Word → Type 0 where
  decimal_word : {ws rest : List Word} → Token k.Decimal ws rest → SpellsDecimalWord ws rest
  dec_word : {ws rest : List Word} → Token k.Dec ws rest → SpellsDecimalWord ws rest

-- where this many brackets may be opened
module _ (m : ℕ) where
  -- '(' n ')'
  pub data SpellsBracketed (low high : ℕ) : ℕ → List Word → List Word → Type 0 where
    bracketed : {n : ℕ} {ws a b rest : List Word} → 0 < m → Token k.LeftParen ws a → SpellsNumber low high n a b → Token k.RightParen b rest → SpellsBracketed low high n ws rest

  -- ['(' n ')'], and a number where it is left out
  pub data SpellsSize (without low high : ℕ) : ℕ → List Word → List Word → Type 0 where
    size_unsaid : {ws : List Word} → SpellsSize without low high without ws ws
    size : {n : ℕ} {ws rest : List Word} → SpellsBracketed low high n ws rest → SpellsSize without low high n ws rest

  -- ['(' n [, n] ')']: a precision of 1 to 38, 18 where it is left out, and a scale of at most the precision, 0 where it is left out
  pub data SpellsPrecision : ℕ → ℕ → List Word → List Word → Type 0 where
    precision_unsaid : {ws : List Word} → SpellsPrecision 18 0 ws ws
    precision : {p : ℕ} {ws rest : List Word} → SpellsBracketed 1 38 p ws rest → SpellsPrecision p 0 ws rest
    with_scale : {p s : ℕ} {ws a b c d rest : List Word} → 0 < m → Token k.LeftParen ws a → SpellsNumber 1 38 p a b → Token k.Comma b c → SpellsNumber 0 p s c d → Token k.RightParen d rest
        → SpellsPrecision p s ws rest

  pub data SpellsType : SqlType → List Word → List Word → Type 0 where
    -- (CHARACTER | CHAR) ['(' n ')']
    character : {n : ℕ} {ws a rest : List Word} → SpellsCharacterWord ws a → SpellsSize 1 1 1000000 n a rest → SpellsType (types.Character n) ws rest
    -- (VARCHAR | CHARACTER VARYING | CHAR VARYING) '(' n ')'
    varchar : {n : ℕ} {ws a rest : List Word} → Token k.Varchar ws a → SpellsBracketed 1 1000000 n a rest → SpellsType (types.CharacterVarying n) ws rest
    varying : {n : ℕ} {ws a b rest : List Word} → SpellsCharacterWord ws a → Token k.Varying a b → SpellsBracketed 1 1000000 n b rest → SpellsType (types.CharacterVarying n) ws rest
    -- (NUMERIC | DECIMAL | DEC) ['(' n [, n] ')']
    numeric : {p s : ℕ} {ws a rest : List Word} → Token k.Numeric ws a → SpellsPrecision p s a rest → SpellsType (types.Numeric p s) ws rest
    decimal : {p s : ℕ} {ws a rest : List Word} → SpellsDecimalWord ws a → SpellsPrecision p s a rest → SpellsType (types.Decimal p s) ws rest
    -- SMALLINT | INTEGER | INT | BIGINT | BOOLEAN | DATE
    smallint : {ws rest : List Word} → Token k.Smallint ws rest → SpellsType types.Smallint ws rest
    integer : {ws rest : List Word} → Token k.Integer ws rest → SpellsType types.Integer ws rest
    int : {ws rest : List Word} → Token k.Int ws rest → SpellsType types.Integer ws rest
    bigint : {ws rest : List Word} → Token k.Bigint ws rest → SpellsType types.Bigint ws rest
    boolean : {ws rest : List Word} → Token k.Boolean ws rest → SpellsType types.Boolean ws rest
    date : {ws rest : List Word} → Token k.Date ws rest → SpellsType types.Date ws rest
    -- (TIME | TIMESTAMP) ['(' n ')']
    time : {n : ℕ} {ws a rest : List Word} → Token k.Time ws a → SpellsSize 0 0 9 n a rest → SpellsType (types.Time n) ws rest
    timestamp : {n : ℕ} {ws a rest : List Word} → Token k.Timestamp ws a → SpellsSize 6 0 9 n a rest → SpellsType (types.Timestamp n) ws rest

-- special := CURRENT_USER | CURRENT_DATE | CURRENT_TIME | CURRENT_TIMESTAMP
pub data SpellsSpecial : Special → List Word → List Word → Type 0 where
  current_user : {ws rest : List Word} → Token k.CurrentUser ws rest → SpellsSpecial specials.CurrentUser ws rest
  current_date : {ws rest : List Word} → Token k.CurrentDate ws rest → SpellsSpecial specials.CurrentDate ws rest
  current_time : {ws rest : List Word} → Token k.CurrentTime ws rest → SpellsSpecial specials.CurrentTime ws rest
  current_timestamp : {ws rest : List Word} → Token k.CurrentTimestamp ws rest → SpellsSpecial specials.CurrentTimestamp ws rest

-- default := lit | [-] Number | TRUE | FALSE | NULL | special
pub data SpellsDefault : Default → List Word → List Word → Type 0 where
  literal : {t : List ℕ} {ws rest : List Word} → SpellsText k.Literal t ws rest → SpellsDefault (defaults.Literal t) ws rest
  number : {minus : Bool} {t : List ℕ} {ws a rest : List Word} → Marked k.MinusSign minus ws a → SpellsText k.Number t a rest → SpellsDefault (defaults.Number minus t) ws rest
  true_word : {ws rest : List Word} → Token k.True ws rest → SpellsDefault defaults.True ws rest
  false_word : {ws rest : List Word} → Token k.False ws rest → SpellsDefault defaults.False ws rest
  null : {ws rest : List Word} → Token k.Null ws rest → SpellsDefault defaults.Null ws rest
  special : {s : Special} {ws rest : List Word} → SpellsSpecial s ws rest → SpellsDefault (defaults.Special s) ws rest
