-- Reading expressions.
use Rattle.std.specs.Prelude.{ℕ, zero, suc, ◌-◌, Bool, true, false, ◌==◌, List, [], Option, Some, None, if◌then◌else◌, option_map}
use Rattle.sql_tree.specs.declared.expr.Added.{Added, roll-Added}
use Rattle.sql_tree.specs.declared.expr.Additive.{Additive}
use Rattle.sql_tree.specs.declared.expr.Additive.TheVariants as additives
use Rattle.sql_tree.specs.declared.expr.Aggregate.{Aggregate}
use Rattle.sql_tree.specs.declared.expr.Aggregate.TheVariants as aggregates
use Rattle.sql_tree.specs.declared.expr.Arm.{Arm, roll-Arm}
use Rattle.sql_tree.specs.declared.expr.Comparison.{Comparison}
use Rattle.sql_tree.specs.declared.expr.Comparison.TheVariants as comparisons
use Rattle.sql_tree.specs.declared.expr.Conjunction.{Conjunction, roll-Conjunction}
use Rattle.sql_tree.specs.declared.expr.Expr.{Expr, roll-Expr}
use Rattle.sql_tree.specs.declared.expr.Factor.{Factor, roll-Factor}
use Rattle.sql_tree.specs.declared.expr.Multiplicative.{Multiplicative}
use Rattle.sql_tree.specs.declared.expr.Multiplicative.TheVariants as multiplicatives
use Rattle.sql_tree.specs.declared.expr.Multiplied.{Multiplied, roll-Multiplied}
use Rattle.sql_tree.specs.declared.expr.Negation.{Negation, roll-Negation}
use Rattle.sql_tree.specs.declared.expr.Operand.{Operand}
use Rattle.sql_tree.specs.declared.expr.Operand.TheVariants as operands
use Rattle.sql_tree.specs.declared.expr.Predicate.{Predicate, roll-Predicate}
use Rattle.sql_tree.specs.declared.expr.Query.{Query}
use Rattle.sql_tree.specs.declared.expr.Sum.{Sum, roll-Sum}
use Rattle.sql_tree.specs.declared.expr.Tail.{Tail}
use Rattle.sql_tree.specs.declared.expr.Tail.TheVariants as tails
use Rattle.sql_tree.specs.declared.expr.Term.{Term, roll-Term}
use Rattle.sql_spelling.specs.declared.kind.Kind.{Kind}
use Rattle.sql_spelling.specs.declared.kind.Kind.TheVariants as k
use Rattle.sql_phrases.specs.Reading.{peek, sees}
use Rattle.sql_phrases.specs.Parsers.{Parser, ◌>>=◌, ◌>>◌, ◌<$>◌, pure, refuse, skip, take_text, eat, expect, opening, separated, repeated, optional}
use Rattle.sql_phrases.specs.NameParsers.{object_name, sees_name}
use Rattle.sql_phrases.specs.TypeParsers.{sql_type, special_by}
use Rattle.sql_expressions.specs.QueryParsers.{reference_of, query}

abbrev pub comparison_of : Kind → Option Comparison
comparison_of k.Equals = Some comparisons.Equal
comparison_of k.NotEquals = Some comparisons.NotEqual
comparison_of k.LessThan = Some comparisons.Less
comparison_of k.LessThanOrEquals = Some comparisons.LessOrEqual
comparison_of k.GreaterThan = Some comparisons.Greater
comparison_of k.GreaterThanOrEquals = Some comparisons.GreaterOrEqual
comparison_of _ = None

abbrev pub additive_of : Kind → Option Additive
additive_of k.PlusSign = Some additives.Plus
additive_of k.MinusSign = Some additives.Minus
additive_of k.Concatenation = Some additives.Concatenation
additive_of _ = None

abbrev pub begins_added : Kind → Bool
begins_added k.PlusSign = true
begins_added k.MinusSign = true
begins_added k.Concatenation = true
begins_added _ = false

abbrev pub multiplicative_of : Kind → Option Multiplicative
multiplicative_of k.Asterisk = Some multiplicatives.Times
multiplicative_of k.Solidus = Some multiplicatives.Divided
multiplicative_of _ = None

abbrev pub begins_multiplied : Kind → Bool
begins_multiplied k.Asterisk = true
begins_multiplied k.Solidus = true
begins_multiplied _ = false

-- the value that a word is by itself; VALUE is one where it may stand
abbrev pub constant_of : Bool → Kind → Option Operand
constant_of value k.True = Some operands.True
constant_of value k.False = Some operands.False
constant_of value k.Value = if value then Some operands.Value else None
constant_of value kind = option_map operands.Special (special_by kind)

abbrev pub constant_found : Option Operand → Parser Operand
constant_found (Some x) = skip >> pure x
constant_found None = refuse

unfoldable pub constant : Bool → Parser Operand
constant value = λ ws. constant_found (constant_of value (peek ws)) ws

-- CASE, where this many brackets may still be opened
unfoldable pub case_opening : ℕ → Parser (Unit {0})
case_opening n = λ ws. if n == 0 then None else expect k.Case ws

-- after IS
unfoldable pub is_null : Parser Tail
is_null = do
  negated ← eat k.Not
  expect k.Null
  pure (tails.IsNull negated)

-- `whole` reads the expressions in brackets
module _ (whole : Parser Expr) where
  -- what stands in a bracket that is open, and the bracket behind it
  unfoldable pub closed_query : Parser Query
  closed_query = do
    q ← query whole
    expect k.RightParen
    pure q

  unfoldable pub closed_list : Parser (List Expr)
  closed_list = do
    es ← separated k.Comma whole
    expect k.RightParen
    pure es

  unfoldable pub closed_expr : Parser Expr
  closed_expr = do
    e ← whole
    expect k.RightParen
    pure e

  unfoldable pub arguments : Parser (List Expr)
  arguments = do
    is_empty ← eat k.RightParen
    if is_empty then pure [] else closed_list

  -- after WHEN
  unfoldable pub arm : Parser Arm
  arm = do
    c ← whole
    expect k.Then
    v ← whole
    pure (roll-Arm (record { condition = c; value = v }))

  unfoldable pub cast_operand : Parser (Option Expr)
  cast_operand = do
    is_null ← eat k.Null
    if is_null then pure None else Some <$> whole

  -- after the bracket
  unfoldable pub counted : Parser Operand
  counted = do
    is_all ← eat k.Asterisk
    if is_all then (expect k.RightParen >> pure operands.CountAll) else operands.Aggregate aggregates.Count <$> closed_expr

  unfoldable pub bracketed : Parser Operand
  bracketed = λ ws. if sees k.Select ws then (operands.Subquery <$> closed_query) ws else (operands.Parenthesized <$> closed_expr) ws

  unfoldable pub members : Bool → Parser Tail
  members negated = λ ws. if sees k.Select ws then (tails.InQuery negated <$> closed_query) ws else (tails.InList negated <$> closed_list) ws

-- VALUE may stand where `value`, and n more brackets may be opened
module _ (value : Bool) (whole : Parser Expr) (n : ℕ) where
  unfoldable pub named : Parser Operand
  named = do
    o ← object_name
    λ ws. if sees k.LeftParen ws then (opening n >> operands.Call o <$> arguments whole) ws else Some (operands.Reference (reference_of o), ws)

  unfoldable pub count : Parser Operand
  count = skip >> (opening n >> counted whole)

  unfoldable pub aggregate : Aggregate → Parser Operand
  aggregate f = skip >> (opening n >> operands.Aggregate f <$> closed_expr whole)

  unfoldable pub case_when : Parser Operand
  case_when = do
    case_opening n
    expect k.When
    arms ← separated k.When (arm whole)
    o ← optional k.Else whole
    expect k.End
    pure (operands.Case arms o)

  unfoldable pub cast : Parser Operand
  cast = do
    skip
    opening n
    o ← cast_operand whole
    expect k.As
    t ← sql_type (n - 1)
    expect k.RightParen
    pure (operands.Cast o t)

  unfoldable pub exists : Parser Operand
  exists = skip >> (opening n >> operands.Exists <$> closed_query whole)

  unfoldable pub named_or_constant : Parser Operand
  named_or_constant = λ ws. if sees_name ws then named ws else constant value ws

  abbrev pub operand_by : Kind → Parser Operand
  operand_by k.Literal = operands.Literal <$> take_text
  operand_by k.Number = operands.Number <$> take_text
  operand_by k.LeftParen = opening n >> bracketed whole
  operand_by k.Count = count
  operand_by k.Sum = aggregate aggregates.Sum
  operand_by k.Min = aggregate aggregates.Min
  operand_by k.Max = aggregate aggregates.Max
  operand_by k.Avg = aggregate aggregates.Avg
  operand_by k.Case = case_when
  operand_by k.Cast = cast
  operand_by k.Exists = exists
  operand_by _ = named_or_constant

  unfoldable pub operand : Parser Operand
  operand = λ ws. operand_by (peek ws) ws

  unfoldable pub factor : Parser Factor
  factor = do
    m ← eat k.MinusSign
    o ← operand
    pure (roll-Factor (record { minus = m; operand = o }))

  abbrev pub multiplied_by : Option Multiplicative → Parser Multiplied
  multiplied_by (Some m) = skip >> (λ f. roll-Multiplied (record { by = m; factor = f })) <$> factor
  multiplied_by None = refuse

  unfoldable pub multiplied : Parser Multiplied
  multiplied = λ ws. multiplied_by (multiplicative_of (peek ws)) ws

  unfoldable pub term : Parser Term
  term = do
    f ← factor
    others ← repeated begins_multiplied multiplied
    pure (roll-Term (record { first = f; others = others }))

  abbrev pub added_by : Option Additive → Parser Added
  added_by (Some a) = skip >> (λ t. roll-Added (record { by = a; term = t })) <$> term
  added_by None = refuse

  unfoldable pub added : Parser Added
  added = λ ws. added_by (additive_of (peek ws)) ws

  unfoldable pub sum : Parser Sum
  sum = do
    t ← term
    others ← repeated begins_added added
    pure (roll-Sum (record { first = t; others = others }))

  -- after BETWEEN
  unfoldable pub between : Bool → Parser Tail
  between negated = do
    low ← sum
    expect k.And
    tails.Between negated low <$> sum

  -- what NOT may stand before
  abbrev pub test_by : Bool → Kind → Parser Tail
  test_by negated k.Between = skip >> between negated
  test_by negated k.In = skip >> (opening n >> members whole negated)
  test_by negated k.Like = skip >> tails.Like negated <$> sum
  test_by negated _ = refuse

  unfoldable pub testing : Bool → Parser Tail
  testing negated = λ ws. test_by negated (peek ws) ws

  abbrev pub compared_by : Option Comparison → Parser (Option Tail)
  compared_by (Some c) = skip >> (λ s. Some (tails.Compare c s)) <$> sum
  compared_by None = pure None

  abbrev pub tail_by : Kind → Parser (Option Tail)
  tail_by k.Is = skip >> Some <$> is_null
  tail_by k.Not = skip >> Some <$> testing true
  tail_by k.Between = Some <$> testing false
  tail_by k.In = Some <$> testing false
  tail_by k.Like = Some <$> testing false
  tail_by kind = compared_by (comparison_of kind)

  unfoldable pub tail : Parser (Option Tail)
  tail = λ ws. tail_by (peek ws) ws

  unfoldable pub predicate : Parser Predicate
  predicate = do
    s ← sum
    t ← tail
    pure (roll-Predicate (record { tested = s; tail = t }))

  unfoldable pub negation : Parser Negation
  negation = do
    negated ← eat k.Not
    p ← predicate
    pure (roll-Negation (record { negated = negated; predicate = p }))

  unfoldable pub conjunction : Parser Conjunction
  conjunction = (λ xs. roll-Conjunction (record { every = xs })) <$> separated k.And negation

  unfoldable pub expr : Parser Expr
  expr = (λ xs. roll-Expr (record { any = xs })) <$> separated k.Or conjunction

-- an expression in which fewer than this many brackets are open at one word
unfoldable pub expr_within : Bool → ℕ → Parser Expr
expr_within value zero = refuse
expr_within value (suc n) = expr value (expr_within value n) n

unfoldable pub query_within : Bool → ℕ → Parser Query
query_within value zero = refuse
query_within value (suc n) = query (expr_within value (suc n))
