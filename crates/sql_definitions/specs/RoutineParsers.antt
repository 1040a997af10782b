-- Reading parameters.
use Rattle.std.specs.Prelude.{List, [], if◌then◌else◌}
use Rattle.sql_names.specs.declared.sort.Param.{Param}
use Rattle.sql_spelling.specs.declared.kind.Kind.TheVariants as k
use Rattle.sql_phrases.specs.Parsers.{Parser, ◌>>=◌, ◌>>◌, pure, eat, expect, separated}
use Rattle.sql_phrases.specs.NameParsers.{identifier}
use Rattle.sql_phrases.specs.TypeParsers.{sql_type}

unfoldable pub param : Parser Param
param = do
  is_in ← eat k.In
  n ← identifier
  t ← sql_type 63
  pure (record { name = n; sort = t })

unfoldable pub params : Parser (List Param)
params = do
  expect k.LeftParen
  is_end ← eat k.RightParen
  if is_end then pure [] else (do
    ps ← separated k.Comma param
    expect k.RightParen
    pure ps)

unfoldable pub language : Parser (Unit {0})
language = do
  is_said ← eat k.Language
  if is_said then expect k.Sql else pure tt
