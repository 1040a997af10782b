-- Reading names and lists of names.
use Rattle.std.specs.Prelude.{ℕ, Bool, ◌&&◌, nat_lt, nat_le, List, [], length, Some, None, if◌then◌else◌}
use Rattle.std.specs.Str.{is_utf8}
use Rattle.sql_names.specs.NameBytes.{NameBytes}
use Rattle.sql_names.specs.declared.column.ObjectName.{ObjectName}
use Rattle.sql_names.specs.declared.column.ObjectName.TheVariants as objects
use Rattle.sql_spelling.specs.Kinds.{is_name}
use Rattle.sql_spelling.specs.declared.kind.Kind.TheVariants as k
use Rattle.sql_words.specs.declared.word.Word.{Word}
use Rattle.sql_phrases.specs.Reading.{peek, spelling, next, sees}
use Rattle.sql_phrases.specs.Parsers.{Parser, ◌>>=◌, ◌>>◌, ◌<$>◌, pure, eat, expect, separated}

-- `IsName` as a test
unfoldable pub fits_name : List ℕ → Bool
fits_name bytes = nat_lt 0 (length bytes) && (nat_le (length bytes) 128 && is_utf8 bytes)

-- the text of the next word as a name
unfoldable pub name_next : Parser NameBytes
name_next = λ ws. if fits_name (spelling ws) then Some (spelling ws, next ws) else None

-- a word that stands for a name comes next
unfoldable pub sees_name : List Word → Bool
sees_name ws = is_name (peek ws)

unfoldable pub identifier : Parser NameBytes
identifier = λ ws. if sees_name ws then name_next ws else None

unfoldable pub literal_name : Parser NameBytes
literal_name = λ ws. if sees k.Literal ws then name_next ws else None

unfoldable pub object_name : Parser ObjectName
object_name = do
  first ← identifier
  is_qualified ← eat k.Period
  if is_qualified then (λ n. objects.Qualified (record { schema = first; name = n })) <$> identifier else pure (objects.Unqualified first)

unfoldable pub identifiers : Parser (List NameBytes)
identifiers = separated k.Comma identifier

unfoldable pub columns : Parser (List NameBytes)
columns = do
  is_listed ← eat k.LeftParen
  if is_listed then (do
    ns ← identifiers
    expect k.RightParen
    pure ns) else pure []
