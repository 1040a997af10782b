-- Reading data types and defaults.
use Rattle.std.specs.Prelude.{ℕ, true, false, nat_le, List, Option, Some, None, if◌then◌else◌}
use Rattle.std.specs.Char.{is_ascii_digit}
use Rattle.std.specs.List.{list_all}
use Rattle.sql_names.specs.declared.sort.Default.{Default}
use Rattle.sql_names.specs.declared.sort.Default.TheVariants as defaults
use Rattle.sql_names.specs.declared.sort.Special.{Special}
use Rattle.sql_names.specs.declared.sort.Special.TheVariants as specials
use Rattle.sql_names.specs.declared.sort.SqlType.{SqlType}
use Rattle.sql_names.specs.declared.sort.SqlType.TheVariants as types
use Rattle.sql_spelling.specs.declared.kind.Kind.{Kind}
use Rattle.sql_spelling.specs.declared.kind.Kind.TheVariants as k
use Rattle.sql_phrases.specs.Reading.{peek, spelling, next, sees}
use Rattle.sql_phrases.specs.Parsers.{Parser, ◌>>=◌, ◌>>◌, ◌<$>◌, pure, refuse, skip, eat, expect, text, opening}
use Rattle.sql_phrases.specs.TypeRules.{number_from}

-- the number that digits write after a number that stands before them, if it is between two bounds
unfoldable pub within_from : ℕ → ℕ → ℕ → List ℕ → Option ℕ
within_from low high n t =
    if list_all is_ascii_digit t then (if nat_le (number_from n t) high then (if nat_le low (number_from n t) then Some (number_from n t) else None) else None) else None

abbrev pub number_within : ℕ → ℕ → List ℕ → Option ℕ
number_within low high t = within_from low high 0 t

abbrev pub number_found : Option ℕ → Parser ℕ
number_found (Some n) ws = Some (n, next ws)
number_found None ws = None

unfoldable pub number : ℕ → ℕ → Parser ℕ
number low high = λ ws. if sees k.Number ws then number_found (number_within low high (spelling ws)) ws else None

-- after a precision
unfoldable pub scale : ℕ → Parser (ℕ × ℕ)
scale p = do
  is_said ← eat k.Comma
  if is_said then (do
    s ← number 0 p
    expect k.RightParen
    pure (p, s)) else (do
      expect k.RightParen
      pure (p, 0))

-- where this many brackets may be opened
module _ (m : ℕ) where
  unfoldable pub bracketed : ℕ → ℕ → Parser ℕ
  bracketed low high = do
    opening m
    n ← number low high
    expect k.RightParen
    pure n

  unfoldable pub size : ℕ → ℕ → ℕ → Parser ℕ
  size without low high = λ ws. if sees k.LeftParen ws then bracketed low high ws else Some (without, ws)

  unfoldable pub precision : Parser (ℕ × ℕ)
  precision = λ ws. if sees k.LeftParen ws then (do
    opening m
    p ← number 1 38
    scale p) ws else Some ((18, 0), ws)

  -- after CHARACTER
  unfoldable pub character : Parser SqlType
  character = do
    is_varying ← eat k.Varying
    if is_varying then types.CharacterVarying <$> bracketed 1 1000000 else types.Character <$> size 1 1 1000000

  abbrev pub type_by : Kind → Parser SqlType
  type_by k.Character = skip >> character
  type_by k.Char = skip >> character
  type_by k.Varchar = skip >> types.CharacterVarying <$> bracketed 1 1000000
  type_by k.Numeric = skip >> (λ p. types.Numeric p.0 p.1) <$> precision
  type_by k.Decimal = skip >> (λ p. types.Decimal p.0 p.1) <$> precision
  type_by k.Dec = skip >> (λ p. types.Decimal p.0 p.1) <$> precision
  type_by k.Smallint = skip >> pure types.Smallint
  type_by k.Integer = skip >> pure types.Integer
  type_by k.Int = skip >> pure types.Integer
  type_by k.Bigint = skip >> pure types.Bigint
  type_by k.Boolean = skip >> pure types.Boolean
  type_by k.Date = skip >> pure types.Date
  type_by k.Time = skip >> types.Time <$> size 0 0 9
  type_by k.Timestamp = skip >> types.Timestamp <$> size 6 0 9
  type_by _ = refuse

  unfoldable pub sql_type : Parser SqlType
  sql_type = λ ws. type_by (peek ws) ws

-- the value that a word says
abbrev pub special_by : Kind → Option Special
special_by k.CurrentUser = Some specials.CurrentUser
special_by k.CurrentDate = Some specials.CurrentDate
special_by k.CurrentTime = Some specials.CurrentTime
special_by k.CurrentTimestamp = Some specials.CurrentTimestamp
special_by _ = None

abbrev pub default_of : Option Special → Parser Default
default_of (Some s) = skip >> pure (defaults.Special s)
default_of None = refuse

-- a default that is one word
abbrev pub default_word : Kind → Parser Default
default_word k.True = skip >> pure defaults.True
default_word k.False = skip >> pure defaults.False
default_word k.Null = skip >> pure defaults.Null
default_word kind = default_of (special_by kind)

unfoldable pub unsigned_default : Parser Default
unsigned_default = λ ws. if sees k.Number ws then (defaults.Number false <$> text k.Number) ws else default_word (peek ws) ws

unfoldable pub default : Parser Default
default = λ ws. if sees k.Literal ws then (defaults.Literal <$> text k.Literal) ws else (do
  is_minus ← eat k.MinusSign
  if is_minus then defaults.Number true <$> text k.Number else unsigned_default) ws
