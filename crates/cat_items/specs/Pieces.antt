-- Of what pieces a query, a condition or a body is made, and when it is resolved and well formed.
use Rattle.std.specs.Prelude.{◌≡◌, ◌<◌, ◌≤◌, ◌+◌, ◌⊎◌, ℕ, List, [], ◌∷◌, ◌++◌, Option, Some, None, All, length, map, flat_map}
use Rattle.std.specs.Str.{IsUtf8}
use Rattle.sql_names.specs.NameBytes.{NameBytes}
use Rattle.sql_names.specs.declared.column.ObjectName.{ObjectName}
use Rattle.sql_names.specs.declared.column.ObjectName.TheVariants.{Qualified}
use Rattle.sql_names.specs.declared.column.Reference.{Reference}
use Rattle.sql_names.specs.declared.column.Reference.TheVariants as references
use Rattle.sql_names.specs.declared.column.TableReference.{TableReference}
use Rattle.sql_names.specs.declared.sort.SqlType.{SqlType}
use Rattle.sql_names.specs.declared.sort.SqlType.TheVariants as sorts
use Rattle.sql_names.specs.declared.sort.Default.{Default}
use Rattle.sql_names.specs.declared.sort.Default.TheVariants as defaults
use Rattle.sql_tree.specs.declared.body.Body.{Body}
use Rattle.sql_tree.specs.declared.body.Body.TheVariants as bodies
use Rattle.sql_tree.specs.declared.body.Act.{Act}
use Rattle.sql_tree.specs.declared.body.Act.TheVariants as acts
use Rattle.sql_tree.specs.declared.body.InsertSource.{InsertSource}
use Rattle.sql_tree.specs.declared.body.InsertSource.TheVariants as sources
use Rattle.sql_tree.specs.declared.body.Assignment.{Assignment}
use Rattle.sql_tree.specs.declared.body.AssignedValue.{AssignedValue}
use Rattle.sql_tree.specs.declared.body.AssignedValue.TheVariants as values
use Rattle.sql_tree.specs.declared.expr.Expr.{Expr, fold-Expr}
use Rattle.sql_tree.specs.declared.expr.Query.{Query, fold-Query}
use Rattle.sql_tree.specs.declared.expr.Join.TheOpen.{Added-F, Arm-F, Chain-F, Conjunction-F, Expr-F, Factor-F, Further-F, Join-F, Multiplied-F, Negation-F, Operand-F, Predicate-F, Query-F, Select-F, SelectItem-F, SelectList-F, Sum-F, Tail-F, Term-F}

-- a reference, one of a GROUP BY, the name of a table or a routine, the name by which something is known, a star, a literal,
-- a number, a type, the length of a list that has a member, or a subquery
pub data Piece : Type 0 where
  of_reference : Reference → Piece
  of_group : Reference → Piece
  of_object : ObjectName → Piece
  of_name : Option NameBytes → Piece
  of_star : Piece
  of_literal : List ℕ → Piece
  of_number : List ℕ → Piece
  of_type : SqlType → Piece
  of_length : ℕ → Piece
  of_subquery : Piece

abbrev pub Pieces : Type 0
Pieces = List Piece

abbrev pub optional_pieces : Option Pieces → Pieces
optional_pieces None = []
optional_pieces (Some pieces) = pieces

abbrev pub all_pieces : List Pieces → Pieces
all_pieces parts = flat_map (λ part. part) parts

-- the pieces of the members of a list that has one
abbrev pub some_pieces : List Pieces → Pieces
some_pieces parts = of_length (length parts) ∷ all_pieces parts

abbrev pub table_pieces : TableReference → Pieces
table_pieces t = of_object t.table ∷ of_name t.correlation ∷ []

abbrev pub join_pieces_step : Join-F Pieces Pieces Pieces Pieces Pieces Pieces Pieces Pieces Pieces Pieces Pieces Pieces Pieces Pieces Pieces Pieces Pieces Pieces Pieces → Pieces
join_pieces_step (Join-F.Inner table on) = table_pieces table ++ on
join_pieces_step (Join-F.Cross table) = table_pieces table

abbrev pub operand_pieces_step : Operand-F Pieces Pieces Pieces Pieces Pieces Pieces Pieces Pieces Pieces Pieces Pieces Pieces Pieces Pieces Pieces Pieces Pieces Pieces Pieces → Pieces
operand_pieces_step (Operand-F.Literal text) = of_literal text ∷ []
operand_pieces_step (Operand-F.Number text) = of_number text ∷ []
operand_pieces_step (Operand-F.Reference reference) = of_reference reference ∷ []
operand_pieces_step (Operand-F.Call routine arguments) = of_object routine ∷ all_pieces arguments
operand_pieces_step (Operand-F.Aggregate function argument) = argument
operand_pieces_step (Operand-F.Case arms otherwise) = some_pieces arms ++ optional_pieces otherwise
operand_pieces_step (Operand-F.Cast operand sort) = of_type sort ∷ optional_pieces operand
operand_pieces_step (Operand-F.Exists query) = of_subquery ∷ query
operand_pieces_step (Operand-F.Subquery query) = of_subquery ∷ query
operand_pieces_step (Operand-F.Parenthesized expr) = expr
operand_pieces_step operand = []

abbrev pub select_item_pieces_step : SelectItem-F Pieces Pieces Pieces Pieces Pieces Pieces Pieces Pieces Pieces Pieces Pieces Pieces Pieces Pieces Pieces Pieces Pieces Pieces Pieces → Pieces
select_item_pieces_step (SelectItem-F.Expr expr name) = of_name name ∷ expr
select_item_pieces_step (SelectItem-F.QualifiedStar qualifier) = of_star ∷ []

abbrev pub select_list_pieces_step : SelectList-F Pieces Pieces Pieces Pieces Pieces Pieces Pieces Pieces Pieces Pieces Pieces Pieces Pieces Pieces Pieces Pieces Pieces Pieces Pieces → Pieces
select_list_pieces_step SelectList-F.Star = of_star ∷ []
select_list_pieces_step (SelectList-F.Listed items) = some_pieces items

abbrev pub tail_pieces_step : Tail-F Pieces Pieces Pieces Pieces Pieces Pieces Pieces Pieces Pieces Pieces Pieces Pieces Pieces Pieces Pieces Pieces Pieces Pieces Pieces → Pieces
tail_pieces_step (Tail-F.Compare by with) = with
tail_pieces_step (Tail-F.IsNull negated) = []
tail_pieces_step (Tail-F.Between negated low high) = low ++ high
tail_pieces_step (Tail-F.InQuery negated query) = of_subquery ∷ query
tail_pieces_step (Tail-F.InList negated list) = some_pieces list
tail_pieces_step (Tail-F.Like negated pattern) = pattern

abbrev pub added_pieces_step : Added-F Pieces Pieces Pieces Pieces Pieces Pieces Pieces Pieces Pieces Pieces Pieces Pieces Pieces Pieces Pieces Pieces Pieces Pieces Pieces → Pieces
added_pieces_step a = a.term

abbrev pub arm_pieces_step : Arm-F Pieces Pieces Pieces Pieces Pieces Pieces Pieces Pieces Pieces Pieces Pieces Pieces Pieces Pieces Pieces Pieces Pieces Pieces Pieces → Pieces
arm_pieces_step a = a.condition ++ a.value

abbrev pub chain_pieces_step : Chain-F Pieces Pieces Pieces Pieces Pieces Pieces Pieces Pieces Pieces Pieces Pieces Pieces Pieces Pieces Pieces Pieces Pieces Pieces Pieces → Pieces
chain_pieces_step c = table_pieces c.first ++ all_pieces c.joins

abbrev pub conjunction_pieces_step : Conjunction-F Pieces Pieces Pieces Pieces Pieces Pieces Pieces Pieces Pieces Pieces Pieces Pieces Pieces Pieces Pieces Pieces Pieces Pieces Pieces → Pieces
conjunction_pieces_step c = some_pieces c.every

abbrev pub expr_pieces_step : Expr-F Pieces Pieces Pieces Pieces Pieces Pieces Pieces Pieces Pieces Pieces Pieces Pieces Pieces Pieces Pieces Pieces Pieces Pieces Pieces → Pieces
expr_pieces_step e = some_pieces e.any

abbrev pub factor_pieces_step : Factor-F Pieces Pieces Pieces Pieces Pieces Pieces Pieces Pieces Pieces Pieces Pieces Pieces Pieces Pieces Pieces Pieces Pieces Pieces Pieces → Pieces
factor_pieces_step f = f.operand

abbrev pub further_pieces_step : Further-F Pieces Pieces Pieces Pieces Pieces Pieces Pieces Pieces Pieces Pieces Pieces Pieces Pieces Pieces Pieces Pieces Pieces Pieces Pieces → Pieces
further_pieces_step f = f.select

abbrev pub multiplied_pieces_step : Multiplied-F Pieces Pieces Pieces Pieces Pieces Pieces Pieces Pieces Pieces Pieces Pieces Pieces Pieces Pieces Pieces Pieces Pieces Pieces Pieces → Pieces
multiplied_pieces_step m = m.factor

abbrev pub negation_pieces_step : Negation-F Pieces Pieces Pieces Pieces Pieces Pieces Pieces Pieces Pieces Pieces Pieces Pieces Pieces Pieces Pieces Pieces Pieces Pieces Pieces → Pieces
negation_pieces_step n = n.predicate

abbrev pub predicate_pieces_step : Predicate-F Pieces Pieces Pieces Pieces Pieces Pieces Pieces Pieces Pieces Pieces Pieces Pieces Pieces Pieces Pieces Pieces Pieces Pieces Pieces → Pieces
predicate_pieces_step p = p.tested ++ optional_pieces p.tail

abbrev pub query_pieces_step : Query-F Pieces Pieces Pieces Pieces Pieces Pieces Pieces Pieces Pieces Pieces Pieces Pieces Pieces Pieces Pieces Pieces Pieces Pieces Pieces → Pieces
query_pieces_step q = q.first ++ all_pieces q.others

abbrev pub select_pieces_step : Select-F Pieces Pieces Pieces Pieces Pieces Pieces Pieces Pieces Pieces Pieces Pieces Pieces Pieces Pieces Pieces Pieces Pieces Pieces Pieces → Pieces
select_pieces_step s = s.list ++ some_pieces s.from ++ optional_pieces s.filter ++ map of_group s.group_by

abbrev pub sum_pieces_step : Sum-F Pieces Pieces Pieces Pieces Pieces Pieces Pieces Pieces Pieces Pieces Pieces Pieces Pieces Pieces Pieces Pieces Pieces Pieces Pieces → Pieces
sum_pieces_step s = s.first ++ all_pieces s.others

abbrev pub term_pieces_step : Term-F Pieces Pieces Pieces Pieces Pieces Pieces Pieces Pieces Pieces Pieces Pieces Pieces Pieces Pieces Pieces Pieces Pieces Pieces Pieces → Pieces
term_pieces_step t = t.first ++ all_pieces t.others

unfoldable pub expr_pieces : Expr → Pieces
expr_pieces = fold-Expr Pieces Pieces Pieces Pieces Pieces Pieces Pieces Pieces Pieces Pieces Pieces Pieces Pieces Pieces Pieces Pieces Pieces Pieces Pieces
    join_pieces_step operand_pieces_step select_item_pieces_step select_list_pieces_step tail_pieces_step added_pieces_step arm_pieces_step chain_pieces_step conjunction_pieces_step expr_pieces_step factor_pieces_step further_pieces_step multiplied_pieces_step negation_pieces_step predicate_pieces_step query_pieces_step select_pieces_step sum_pieces_step term_pieces_step

unfoldable pub query_pieces : Query → Pieces
query_pieces = fold-Query Pieces Pieces Pieces Pieces Pieces Pieces Pieces Pieces Pieces Pieces Pieces Pieces Pieces Pieces Pieces Pieces Pieces Pieces Pieces
    join_pieces_step operand_pieces_step select_item_pieces_step select_list_pieces_step tail_pieces_step added_pieces_step arm_pieces_step chain_pieces_step conjunction_pieces_step expr_pieces_step factor_pieces_step further_pieces_step multiplied_pieces_step negation_pieces_step predicate_pieces_step query_pieces_step select_pieces_step sum_pieces_step term_pieces_step

abbrev pub value_pieces : AssignedValue → Pieces
value_pieces (values.Expr expr) = expr_pieces expr
value_pieces value = []

abbrev pub source_pieces : InsertSource → Pieces
source_pieces (sources.Values all) = some_pieces (map value_pieces all)
source_pieces (sources.Query query) = query_pieces query

abbrev pub filter_pieces : Option Expr → Pieces
filter_pieces None = []
filter_pieces (Some expr) = expr_pieces expr

-- an INSERT has its column list
abbrev pub act_pieces : Act → Pieces
act_pieces (acts.Insert table columns source) = of_object table ∷ of_length (length columns) ∷ source_pieces source
act_pieces (acts.Update table assignments filter) = of_object table ∷ some_pieces (map (λ (a : Assignment). value_pieces a.value) assignments) ++ filter_pieces filter
act_pieces (acts.Delete table filter) = of_object table ∷ filter_pieces filter
act_pieces (acts.Call routine arguments) = of_object routine ∷ flat_map expr_pieces arguments

abbrev pub body_pieces : Body → Pieces
body_pieces (bodies.Return security expr) = expr_pieces expr
body_pieces (bodies.Atomic security all) = some_pieces (map act_pieces all)

abbrev pub default_pieces : Option Default → Pieces
default_pieces (Some (defaults.Literal text)) = of_literal text ∷ []
default_pieces (Some (defaults.Number minus text)) = of_number text ∷ []
default_pieces default = []

abbrev pub IsDigit : ℕ → Type 0
IsDigit byte = (48 ≤ byte) × (byte ≤ 57)

-- digits, or digits, a point and digits
pub record IsWhole (text : List ℕ) : Type 0 where
  pub some : 0 < length text
  pub few : length text ≤ 38
  pub digits : All IsDigit text

pub record IsDecimal (text : List ℕ) : Type 0 where
  pub whole : List ℕ
  pub fraction : List ℕ
  pub parts : text ≡ whole ++ 46 ∷ fraction
  pub before : 0 < length whole
  pub after : 0 < length fraction
  pub few : length whole + length fraction ≤ 38
  pub whole_digits : All IsDigit whole
  pub fraction_digits : All IsDigit fraction

abbrev pub IsNumber : List ℕ → Type 0
IsNumber text = IsWhole text ⊎ IsDecimal text

abbrev pub IsLength : ℕ → Type 0
IsLength length = (1 ≤ length) × (length ≤ 1000000)

abbrev pub ArePrecision : ℕ → ℕ → Type 0
ArePrecision precision scale = (1 ≤ precision) × (precision ≤ 38) × (scale ≤ precision)

-- the numbers of a type keep their ranges
abbrev pub IsType : SqlType → Type 0
IsType (sorts.Character length) = IsLength length
IsType (sorts.CharacterVarying length) = IsLength length
IsType (sorts.Numeric precision scale) = ArePrecision precision scale
IsType (sorts.Decimal precision scale) = ArePrecision precision scale
IsType (sorts.Time precision) = precision ≤ 9
IsType (sorts.Timestamp precision) = precision ≤ 9
IsType sort = Unit {0}

-- each reference is resolved, each object has its schema and each thing its name; there is no star; texts and numbers are of their form
abbrev pub IsResolved : Piece → Type 0
IsResolved (of_reference (references.Cell up at qualifier name)) = Unit {0}
IsResolved (of_reference (references.Own table name)) = Unit {0}
IsResolved (of_reference (references.Param name)) = Unit {0}
IsResolved (of_reference reference) = ⊥
IsResolved (of_group (references.Cell up at qualifier name)) = Unit {0}
IsResolved (of_group reference) = ⊥
IsResolved (of_object (Qualified o)) = Unit {0}
IsResolved (of_object name) = ⊥
IsResolved (of_name (Some name)) = Unit {0}
IsResolved (of_name None) = ⊥
IsResolved of_star = ⊥
IsResolved (of_literal text) = IsUtf8 text
IsResolved (of_number text) = IsNumber text
IsResolved (of_type sort) = IsType sort
IsResolved (of_length n) = 0 < n
IsResolved of_subquery = Unit {0}

abbrev pub AreResolved : Pieces → Type 0
AreResolved pieces = All IsResolved pieces

-- what the grammar gives of each tree: texts, numbers and types are of their form, and lists that have a member have one
abbrev pub IsFormed : Piece → Type 0
IsFormed (of_literal text) = IsUtf8 text
IsFormed (of_number text) = IsNumber text
IsFormed (of_type sort) = IsType sort
IsFormed (of_length n) = 0 < n
IsFormed piece = Unit {0}

abbrev pub AreFormed : Pieces → Type 0
AreFormed pieces = All IsFormed pieces
