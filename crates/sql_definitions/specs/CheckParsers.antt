-- Reading conditions.
use Rattle.std.specs.Prelude.{ℕ, Bool, true, false, List, Option}
use Rattle.sql_names.specs.NameBytes.{NameBytes}
use Rattle.sql_tree.specs.declared.expr.Expr.{Expr}
use Rattle.sql_tree.specs.declared.table.DomainCheck.{DomainCheck}
use Rattle.sql_spelling.specs.declared.kind.Kind.{Kind}
use Rattle.sql_spelling.specs.declared.kind.Kind.TheVariants as k
use Rattle.sql_phrases.specs.Parsers.{Parser, ◌>>=◌, ◌>>◌, pure, expect, optional, repeated}
use Rattle.sql_phrases.specs.NameParsers.{identifier}
use Rattle.sql_expressions.specs.ExpressionParsers.{expr_within}

unfoldable pub check : Bool → ℕ → Parser Expr
check value m = do
  expect k.Check
  expect k.LeftParen
  e ← expr_within value m
  expect k.RightParen
  pure e

unfoldable pub constraint_name : Parser (Option NameBytes)
constraint_name = optional k.Constraint identifier

unfoldable pub domain_check : Parser DomainCheck
domain_check = do
  n ← constraint_name
  e ← check true 64
  pure (record { name = n; condition = e })

-- the words with which a domain's check begins
abbrev pub begins_domain_check : Kind → Bool
begins_domain_check k.Constraint = true
begins_domain_check k.Check = true
begins_domain_check _ = false

unfoldable pub domain_checks : Parser (List DomainCheck)
domain_checks = repeated begins_domain_check domain_check
