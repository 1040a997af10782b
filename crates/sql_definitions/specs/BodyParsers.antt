-- Reading what procedures do.
use Rattle.std.specs.Prelude.{ℕ, Bool, true, false, List, [], ◌∷◌, Option, if◌then◌else◌}
use Rattle.sql_tree.specs.declared.body.Act.{Act}
use Rattle.sql_tree.specs.declared.body.Act.TheVariants as acts
use Rattle.sql_tree.specs.declared.body.AssignedValue.{AssignedValue}
use Rattle.sql_tree.specs.declared.body.AssignedValue.TheVariants as values
use Rattle.sql_tree.specs.declared.body.Assignment.{Assignment}
use Rattle.sql_tree.specs.declared.body.InsertSource.{InsertSource}
use Rattle.sql_tree.specs.declared.body.InsertSource.TheVariants as sources
use Rattle.sql_tree.specs.declared.expr.Expr.{Expr}
use Rattle.sql_spelling.specs.declared.kind.Kind.{Kind}
use Rattle.sql_spelling.specs.declared.kind.Kind.TheVariants as k
use Rattle.sql_phrases.specs.Reading.{peek}
use Rattle.sql_phrases.specs.Parsers.{Parser, ◌>>=◌, ◌>>◌, ◌<$>◌, pure, refuse, skip, eat, expect, separated, repeated, optional}
use Rattle.sql_phrases.specs.NameParsers.{identifier, object_name, columns}
use Rattle.sql_expressions.specs.ExpressionParsers.{expr_within, query_within}

abbrev pub assigned_by : ℕ → Kind → Parser AssignedValue
assigned_by m k.Null = skip >> pure values.Null
assigned_by m k.Default = skip >> pure values.Default
assigned_by m _ = values.Expr <$> expr_within false m

unfoldable pub assigned_value : ℕ → Parser AssignedValue
assigned_value m = λ ws. assigned_by m (peek ws) ws

unfoldable pub assignment : Parser Assignment
assignment = do
  c ← identifier
  expect k.Equals
  v ← assigned_value 64
  pure (record { column = c; value = v })

-- after VALUES
unfoldable pub value_list : Parser (List AssignedValue)
value_list = do
  expect k.LeftParen
  vs ← separated k.Comma (assigned_value 63)
  expect k.RightParen
  pure vs

unfoldable pub insert_source : Parser InsertSource
insert_source = do
  is_values ← eat k.Values
  if is_values then sources.Values <$> value_list else sources.Query <$> query_within false 64

unfoldable pub arguments : Parser (List Expr)
arguments = do
  expect k.LeftParen
  is_end ← eat k.RightParen
  if is_end then pure [] else (do
    es ← separated k.Comma (expr_within false 63)
    expect k.RightParen
    pure es)

unfoldable pub filter : Parser (Option Expr)
filter = optional k.Where (expr_within false 64)

-- after INSERT
unfoldable pub insert : Parser Act
insert = do
  expect k.Into
  t ← object_name
  cs ← columns
  acts.Insert t cs <$> insert_source

-- after UPDATE
unfoldable pub update : Parser Act
update = do
  t ← object_name
  expect k.Set
  xs ← separated k.Comma assignment
  acts.Update t xs <$> filter

-- after DELETE
unfoldable pub delete : Parser Act
delete = do
  expect k.From
  t ← object_name
  acts.Delete t <$> filter

-- after CALL
unfoldable pub call : Parser Act
call = do
  r ← object_name
  acts.Call r <$> arguments

abbrev pub act_by : Kind → Parser Act
act_by k.Insert = skip >> insert
act_by k.Update = skip >> update
act_by k.Delete = skip >> delete
act_by k.Call = skip >> call
act_by _ = refuse

unfoldable pub act : Parser Act
act = λ ws. act_by (peek ws) ws

unfoldable pub ended_act : Parser Act
ended_act = do
  x ← act
  expect k.Semicolon
  pure x

-- the words with which an act begins
abbrev pub begins_act : Kind → Bool
begins_act k.Insert = true
begins_act k.Update = true
begins_act k.Delete = true
begins_act k.Call = true
begins_act _ = false

unfoldable pub ended_acts : Parser (List Act)
ended_acts = repeated begins_act ended_act

abbrev pub some_acts : List Act → Parser (List Act)
some_acts [] = refuse
some_acts (x ∷ xs) = pure (x ∷ xs)

unfoldable pub acts_in_order : Parser (List Act)
acts_in_order = ended_acts >>= some_acts
