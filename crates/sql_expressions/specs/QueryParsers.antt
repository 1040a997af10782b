-- Reading queries.
use Rattle.std.specs.Prelude.{Bool, true, false, ◌&&◌, List, [], Option, Some, None, if◌then◌else◌}
use Rattle.sql_names.specs.NameBytes.{NameBytes}
use Rattle.sql_names.specs.declared.column.ObjectName.{ObjectName}
use Rattle.sql_names.specs.declared.column.ObjectName.TheVariants as objects
use Rattle.sql_names.specs.declared.column.Reference.{Reference}
use Rattle.sql_names.specs.declared.column.Reference.TheVariants as references
use Rattle.sql_names.specs.declared.column.TableReference.{TableReference}
use Rattle.sql_tree.specs.declared.expr.Chain.{Chain, roll-Chain}
use Rattle.sql_tree.specs.declared.expr.Expr.{Expr}
use Rattle.sql_tree.specs.declared.expr.Further.{Further, roll-Further}
use Rattle.sql_tree.specs.declared.expr.Join.{Join}
use Rattle.sql_tree.specs.declared.expr.Join.TheVariants as joins
use Rattle.sql_tree.specs.declared.expr.Query.{Query, roll-Query}
use Rattle.sql_tree.specs.declared.expr.Select.{Select, roll-Select}
use Rattle.sql_tree.specs.declared.expr.SelectItem.{SelectItem}
use Rattle.sql_tree.specs.declared.expr.SelectItem.TheVariants as items
use Rattle.sql_tree.specs.declared.expr.SelectList.{SelectList}
use Rattle.sql_tree.specs.declared.expr.SelectList.TheVariants as lists
use Rattle.sql_tree.specs.declared.expr.SetOperator.{SetOperator}
use Rattle.sql_tree.specs.declared.expr.SetOperator.TheVariants as operators
use Rattle.sql_spelling.specs.declared.kind.Kind.{Kind}
use Rattle.sql_spelling.specs.declared.kind.Kind.TheVariants as k
use Rattle.sql_words.specs.declared.word.Word.{Word}
use Rattle.sql_phrases.specs.Reading.{peek, next, sees}
use Rattle.sql_phrases.specs.Parsers.{Parser, ◌>>=◌, ◌>>◌, ◌<$>◌, pure, refuse, skip, eat, expect, separated, repeated, optional}
use Rattle.sql_phrases.specs.NameParsers.{identifier, object_name, sees_name}

abbrev pub reference_of : ObjectName → Reference
reference_of (objects.Unqualified n) = references.Unqualified n
reference_of (objects.Qualified o) = references.Qualified o.schema o.name

unfoldable pub reference : Parser Reference
reference = reference_of <$> object_name

unfoldable pub alias : Parser (Option NameBytes)
alias = do
  is_as ← eat k.As
  if is_as then Some <$> identifier else (λ ws. if sees_name ws then (Some <$> identifier) ws else Some (None, ws))

unfoldable pub table_reference : Parser TableReference
table_reference = do
  t ← object_name
  n ← alias
  pure (record { table = t; correlation = n })

unfoldable pub quantifier : Parser Bool
quantifier = do
  is_distinct ← eat k.Distinct
  if is_distinct then pure true else (do
    _ ← eat k.All
    pure false)

-- the words begin with name . '*'
unfoldable pub sees_qualified_star : List Word → Bool
sees_qualified_star ws = sees_name ws && (sees k.Period (next ws) && sees k.Asterisk (next (next ws)))

unfoldable pub qualified_star : Parser SelectItem
qualified_star = do
  q ← identifier
  expect k.Period
  expect k.Asterisk
  pure (items.QualifiedStar q)

abbrev pub set_operator_of : Kind → Option SetOperator
set_operator_of k.Union = Some operators.Union
set_operator_of k.Except = Some operators.Except
set_operator_of _ = None

abbrev pub begins_further : Kind → Bool
begins_further k.Union = true
begins_further k.Except = true
begins_further _ = false

abbrev pub begins_join : Kind → Bool
begins_join k.Join = true
begins_join k.Inner = true
begins_join k.Cross = true
begins_join _ = false

unfoldable pub grouping : Parser (List Reference)
grouping = do
  is_grouped ← eat k.Group
  if is_grouped then (do
    expect k.By
    separated k.Comma reference) else pure []

-- `whole` reads the expressions of these queries
module _ (whole : Parser Expr) where
  unfoldable pub expr_item : Parser SelectItem
  expr_item = do
    e ← whole
    n ← alias
    pure (items.Expr e n)

  unfoldable pub select_item : Parser SelectItem
  select_item = λ ws. if sees_qualified_star ws then qualified_star ws else expr_item ws

  unfoldable pub select_list : Parser SelectList
  select_list = do
    is_star ← eat k.Asterisk
    if is_star then pure lists.Star else lists.Listed <$> separated k.Comma select_item

  -- after JOIN
  unfoldable pub inner_join : Parser Join
  inner_join = do
    t ← table_reference
    expect k.On
    joins.Inner t <$> whole

  abbrev pub join_by : Kind → Parser Join
  join_by k.Join = skip >> inner_join
  join_by k.Inner = skip >> (expect k.Join >> inner_join)
  join_by k.Cross = skip >> (expect k.Join >> joins.Cross <$> table_reference)
  join_by _ = refuse

  unfoldable pub join : Parser Join
  join = λ ws. join_by (peek ws) ws

  unfoldable pub chain : Parser Chain
  chain = do
    t ← table_reference
    js ← repeated begins_join join
    pure (roll-Chain (record { first = t; joins = js }))

  unfoldable pub select : Parser Select
  select = do
    expect k.Select
    d ← quantifier
    l ← select_list
    expect k.From
    cs ← separated k.Comma chain
    w ← optional k.Where whole
    rs ← grouping
    pure (roll-Select (record { distinct = d; list = l; from = cs; filter = w; group_by = rs }))

  abbrev pub further_of : Option SetOperator → Parser Further
  further_of (Some o) = do
    skip
    is_all ← eat k.All
    s ← select
    pure (roll-Further (record { by = o; all = is_all; select = s }))
  further_of None = refuse

  unfoldable pub further : Parser Further
  further = λ ws. further_of (set_operator_of (peek ws)) ws

  unfoldable pub query : Parser Query
  query = do
    s ← select
    fs ← repeated begins_further further
    pure (roll-Query (record { first = s; others = fs }))
