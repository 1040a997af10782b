-- Reading what CREATE makes, after the word that names its kind.
use Rattle.std.specs.Prelude.{false}
use Rattle.sql_tree.specs.declared.body.Body.TheVariants as bodies
use Rattle.sql_tree.specs.declared.body.Security.TheVariants.{Definer}
use Rattle.sql_tree.specs.declared.statement.Statement.{Statement}
use Rattle.sql_tree.specs.declared.statement.Statement.TheVariants as statements
use Rattle.sql_spelling.specs.declared.kind.Kind.TheVariants as k
use Rattle.sql_phrases.specs.Parsers.{Parser, ◌>>=◌, ◌>>◌, pure, eat, expect, optional}
use Rattle.sql_phrases.specs.NameParsers.{object_name, columns}
use Rattle.sql_phrases.specs.TypeParsers.{sql_type}
use Rattle.sql_phrases.specs.TypeParsers as types
use Rattle.sql_expressions.specs.ExpressionParsers.{expr_within, query_within}
use Rattle.sql_definitions.specs.CheckParsers.{check, domain_checks}
use Rattle.sql_definitions.specs.BodyParsers.{acts_in_order}
use Rattle.sql_definitions.specs.RoutineParsers.{params, language}
use Rattle.sql_definitions.specs.TableParsers.{table_elements}

unfoldable pub create_table : Parser Statement
create_table = do
  table ← object_name
  es ← table_elements 63
  pure (statements.CreateTable (record { table = table; elements = es }))

unfoldable pub create_view : Parser Statement
create_view = do
  view ← object_name
  cs ← columns
  expect k.As
  q ← query_within false 65
  pure (statements.CreateView (record { view = view; columns = cs; query = q }))

unfoldable pub create_domain : Parser Statement
create_domain = do
  n ← object_name
  _ ← eat k.As
  t ← sql_type 64
  value ← optional k.Default types.default
  checks ← domain_checks
  pure (statements.CreateDomain (record { domain = n; sort = t; default = value; checks = checks }))

unfoldable pub create_assertion : Parser Statement
create_assertion = do
  n ← object_name
  x ← check false 64
  pure (statements.CreateAssertion (record { assertion = n; condition = x }))

unfoldable pub create_function : Parser Statement
create_function = do
  n ← object_name
  ps ← params
  expect k.Returns
  t ← sql_type 64
  language
  expect k.Return
  x ← expr_within false 65
  pure (statements.CreateFunction (record { function = n; params = ps; returns = t; body = bodies.Return Definer x }))

unfoldable pub create_procedure : Parser Statement
create_procedure = do
  n ← object_name
  ps ← params
  language
  expect k.Begin
  expect k.Atomic
  xs ← acts_in_order
  expect k.End
  pure (statements.CreateProcedure (record { procedure = n; params = ps; body = bodies.Atomic Definer xs }))
