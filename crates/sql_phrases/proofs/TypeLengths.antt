-- Data types and defaults have at least one word, and a type begins with one of its words.
use Rattle.std.proofs.Common.{◌≡◌, ℕ, ◌<◌, ◌≤◌, Bool, true, false, List, length, refl, ap, arith}
use Rattle.sql_names.specs.declared.sort.Default.{Default}
use Rattle.sql_names.specs.declared.sort.Special.{Special}
use Rattle.sql_names.specs.declared.sort.SqlType.{SqlType}
use Rattle.sql_spelling.specs.Kinds.{is_name, same_kind}
use Rattle.sql_spelling.specs.declared.kind.Kind.{Kind}
use Rattle.sql_spelling.specs.declared.kind.Kind.TheVariants as k
use Rattle.sql_words.specs.declared.word.Word.{Word}
use Rattle.sql_phrases.specs.Reading.{peek}
use Rattle.sql_phrases.specs.Shapes.{absent, present}
use Rattle.sql_phrases.specs.TypeRules as types
use Rattle.sql_phrases.specs.TypeRules.{SpellsType, SpellsDefault, SpellsSpecial, SpellsNumber, SpellsBracketed, SpellsSize, SpellsPrecision}
use Rattle.sql_phrases.proofs.Lists.{peek_at, shorter_token, shorter_spelled}

pub special_shorter : {s : Special} {ws rest : List Word} → SpellsSpecial s ws rest → length rest < length ws
special_shorter (types.current_user t) = shorter_token t
special_shorter (types.current_date t) = shorter_token t
special_shorter (types.current_time t) = shorter_token t
special_shorter (types.current_timestamp t) = shorter_token t

pub default_shorter : {d : Default} {ws rest : List Word} → SpellsDefault d ws rest → length rest < length ws
default_shorter (types.literal s) = shorter_spelled s
default_shorter (types.number absent s) = shorter_spelled s
default_shorter (types.number (present t) s) = omega (arith, shorter_token t, shorter_spelled s)
default_shorter (types.true_word t) = shorter_token t
default_shorter (types.false_word t) = shorter_token t
default_shorter (types.null t) = shorter_token t
default_shorter (types.special s) = special_shorter s

pub number_shorter : {low high n : ℕ} {ws rest : List Word} → SpellsNumber low high n ws rest → length rest < length ws
number_shorter (types.number s d lo hi) = shorter_spelled s

-- the words with which a type begins
abbrev pub begins_type : Kind → Bool
begins_type k.Character = true
begins_type k.Char = true
begins_type k.Varchar = true
begins_type k.Numeric = true
begins_type k.Decimal = true
begins_type k.Dec = true
begins_type k.Smallint = true
begins_type k.Integer = true
begins_type k.Int = true
begins_type k.Bigint = true
begins_type k.Boolean = true
begins_type k.Date = true
begins_type k.Time = true
begins_type k.Timestamp = true
begins_type _ = false

no_name : (kind : Kind) → begins_type kind ≡ true → is_name kind ≡ false
unfolding is_name same_kind
no_name k.Character e = refl
no_name k.Char e = refl
no_name k.Varchar e = refl
no_name k.Numeric e = refl
no_name k.Decimal e = refl
no_name k.Dec e = refl
no_name k.Smallint e = refl
no_name k.Integer e = refl
no_name k.Int e = refl
no_name k.Bigint e = refl
no_name k.Boolean e = refl
no_name k.Date e = refl
no_name k.Time e = refl
no_name k.Timestamp e = refl
no_name _ e = cc

module _ (m : ℕ) where
  pub bracketed_shorter : {low high n : ℕ} {ws rest : List Word} → SpellsBracketed m low high n ws rest → length rest < length ws
  bracketed_shorter (types.bracketed lt l n r) = omega (arith, shorter_token l, number_shorter n, shorter_token r)

  pub size_shorter : {without low high n : ℕ} {ws rest : List Word} → SpellsSize m without low high n ws rest → length rest ≤ length ws
  size_shorter types.size_unsaid = omega arith
  size_shorter (types.size b) = omega (arith, bracketed_shorter b)

  pub precision_shorter : {p s : ℕ} {ws rest : List Word} → SpellsPrecision m p s ws rest → length rest ≤ length ws
  precision_shorter types.precision_unsaid = omega arith
  precision_shorter (types.precision b) = omega (arith, bracketed_shorter b)
  precision_shorter (types.with_scale lt l n c q r) = omega (arith, shorter_token l, number_shorter n, shorter_token c, number_shorter q, shorter_token r)

  pub type_shorter : {t : SqlType} {ws rest : List Word} → SpellsType m t ws rest → length rest < length ws
  type_shorter (types.character (types.character_word t) n) = omega (arith, shorter_token t, size_shorter n)
  type_shorter (types.character (types.char_word t) n) = omega (arith, shorter_token t, size_shorter n)
  type_shorter (types.varchar t b) = omega (arith, shorter_token t, bracketed_shorter b)
  type_shorter (types.varying (types.character_word t) v b) = omega (arith, shorter_token t, shorter_token v, bracketed_shorter b)
  type_shorter (types.varying (types.char_word t) v b) = omega (arith, shorter_token t, shorter_token v, bracketed_shorter b)
  type_shorter (types.numeric t p) = omega (arith, shorter_token t, precision_shorter p)
  type_shorter (types.decimal (types.decimal_word t) p) = omega (arith, shorter_token t, precision_shorter p)
  type_shorter (types.decimal (types.dec_word t) p) = omega (arith, shorter_token t, precision_shorter p)
  type_shorter (types.smallint t) = shorter_token t
  type_shorter (types.integer t) = shorter_token t
  type_shorter (types.int t) = shorter_token t
  type_shorter (types.bigint t) = shorter_token t
  type_shorter (types.boolean t) = shorter_token t
  type_shorter (types.date t) = shorter_token t
  type_shorter (types.time t n) = omega (arith, shorter_token t, size_shorter n)
  type_shorter (types.timestamp t n) = omega (arith, shorter_token t, size_shorter n)

  pub type_begins : {t : SqlType} {ws rest : List Word} → SpellsType m t ws rest → begins_type (peek ws) ≡ true
  type_begins (types.character (types.character_word t) n) = ap begins_type (peek_at t)
  type_begins (types.character (types.char_word t) n) = ap begins_type (peek_at t)
  type_begins (types.varchar t b) = ap begins_type (peek_at t)
  type_begins (types.varying (types.character_word t) v b) = ap begins_type (peek_at t)
  type_begins (types.varying (types.char_word t) v b) = ap begins_type (peek_at t)
  type_begins (types.numeric t p) = ap begins_type (peek_at t)
  type_begins (types.decimal (types.decimal_word t) p) = ap begins_type (peek_at t)
  type_begins (types.decimal (types.dec_word t) p) = ap begins_type (peek_at t)
  type_begins (types.smallint t) = ap begins_type (peek_at t)
  type_begins (types.integer t) = ap begins_type (peek_at t)
  type_begins (types.int t) = ap begins_type (peek_at t)
  type_begins (types.bigint t) = ap begins_type (peek_at t)
  type_begins (types.boolean t) = ap begins_type (peek_at t)
  type_begins (types.date t) = ap begins_type (peek_at t)
  type_begins (types.time t n) = ap begins_type (peek_at t)
  type_begins (types.timestamp t n) = ap begins_type (peek_at t)

  pub type_reserved : {t : SqlType} {ws rest : List Word} → SpellsType m t ws rest → is_name (peek ws) ≡ false
  type_reserved {ws = ws} t = no_name (peek ws) (type_begins t)
