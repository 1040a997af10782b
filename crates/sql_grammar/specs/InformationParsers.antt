-- Reading a SELECT from a view of the Information Schema.
use Rattle.std.specs.Prelude.{List, [], if◌then◌else◌}
use Rattle.sql_tree.specs.declared.statement.InfoColumns.{InfoColumns}
use Rattle.sql_tree.specs.declared.statement.InfoColumns.TheVariants as columns
use Rattle.sql_tree.specs.declared.statement.InfoQuery.{InfoQuery}
use Rattle.sql_tree.specs.declared.statement.InfoTest.{InfoTest}
use Rattle.sql_tree.specs.declared.statement.InfoTest.TheVariants as tests
use Rattle.sql_tree.specs.declared.statement.InfoValue.{InfoValue}
use Rattle.sql_tree.specs.declared.statement.InfoValue.TheVariants as values
use Rattle.sql_spelling.specs.declared.kind.Kind.TheVariants as k
use Rattle.sql_phrases.specs.Reading.{sees}
use Rattle.sql_phrases.specs.Parsers.{Parser, ◌>>=◌, ◌>>◌, ◌<$>◌, pure, eat, expect, text, separated}
use Rattle.sql_phrases.specs.NameParsers.{identifier, identifiers}

unfoldable pub info_value : Parser InfoValue
info_value = λ ws. if sees k.Literal ws then (values.Literal <$> text k.Literal) ws else (values.Number <$> text k.Number) ws

unfoldable pub info_test : Parser InfoTest
info_test = do
  c ← identifier
  is_is ← eat k.Is
  if is_is then (expect k.Null >> pure (tests.IsNull c)) else (do
    expect k.Equals
    tests.Equals c <$> info_value)

unfoldable pub info_tests : Parser (List InfoTest)
info_tests = do
  is_said ← eat k.Where
  if is_said then separated k.And info_test else pure []

unfoldable pub info_columns : Parser InfoColumns
info_columns = do
  is_all ← eat k.Asterisk
  if is_all then pure columns.All else columns.Named <$> identifiers

-- after SELECT
unfoldable pub info_query : Parser InfoQuery
info_query = do
  cs ← info_columns
  expect k.From
  expect k.InformationSchema
  expect k.Period
  view ← identifier
  ts ← info_tests
  pure (record { columns = cs; view = view; tests = ts })
