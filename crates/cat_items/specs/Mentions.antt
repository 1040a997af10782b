-- What a query, a condition or a body mentions: columns, tables and routines, at any depth.
use Rattle.std.specs.Prelude.{ℕ, zero, suc, ◌+◌, Bool, false, cond, List, [], ◌∷◌, ◌++◌, Option, Some, None, map, flat_map, nat_eq, slice_get}
use Rattle.std.specs.List.{list_any}
use Rattle.sql_names.specs.NameBytes.{NameBytes}
use Rattle.sql_names.specs.declared.object.Object.{Object}
use Rattle.sql_names.specs.declared.column.ObjectName.{ObjectName}
use Rattle.sql_names.specs.declared.column.ObjectName.TheVariants.{Qualified}
use Rattle.sql_names.specs.declared.column.Reference.{Reference}
use Rattle.sql_names.specs.declared.column.Reference.TheVariants as references
use Rattle.sql_tree.specs.declared.expr.Expr.{Expr, fold-Expr}
use Rattle.sql_tree.specs.declared.expr.Query.{Query, fold-Query}
use Rattle.sql_tree.specs.declared.expr.Join.TheOpen.{Added-F, Arm-F, Chain-F, Conjunction-F, Expr-F, Factor-F, Further-F, Join-F, Multiplied-F, Negation-F, Operand-F, Predicate-F, Query-F, Select-F, SelectItem-F, SelectList-F, Sum-F, Tail-F, Term-F}

-- a column of a table of a FROM that isn't closed yet, a column of a table, a table no column of which is used, or a routine
pub data Mention : Type 0 where
  of_cell : ℕ → ℕ → NameBytes → Mention
  of_column : Object → NameBytes → Mention
  of_table : Object → Mention
  of_routine : Object → Mention

abbrev pub Mentions : Type 0
Mentions = List Mention

-- a joined table, and what its ON condition mentions
abbrev pub Joined : Type 0
Joined = ObjectName × Mentions

-- the tables of a chain, and what its ON conditions mention
abbrev pub Chained : Type 0
Chained = List ObjectName × Mentions

-- what isn't resolved, and a parameter, mention nothing
abbrev pub reference_mentions : Reference → Mentions
reference_mentions (references.Cell up at qualifier name) = of_cell up at name ∷ []
reference_mentions (references.Own table name) = of_column table name ∷ []
reference_mentions reference = []

abbrev pub routine_mentions : ObjectName → Mentions
routine_mentions (Qualified routine) = of_routine routine ∷ []
routine_mentions name = []

abbrev pub table_mentions : ObjectName → Mentions
table_mentions (Qualified table) = of_table table ∷ []
table_mentions name = []

abbrev pub optional_mentions : Option Mentions → Mentions
optional_mentions None = []
optional_mentions (Some mentions) = mentions

abbrev pub all_mentions : List Mentions → Mentions
all_mentions parts = flat_map (λ part. part) parts

abbrev pub column_at : Option ObjectName → NameBytes → Mentions
column_at (Some (Qualified table)) name = of_column table name ∷ []
column_at table name = []

-- a mention seen from outside of a query with these tables
abbrev pub seen_outside : List ObjectName → Mention → Mentions
seen_outside tables (of_cell zero at name) = column_at (slice_get tables at) name
seen_outside tables (of_cell (suc up) at name) = of_cell up at name ∷ []
seen_outside tables mention = mention ∷ []

-- it is of a column of the table at this place
abbrev pub is_of_place : ℕ → Mention → Bool
is_of_place place (of_cell zero at name) = nat_eq at place
is_of_place place mention = false

-- the tables no column of which is used, from a place on
abbrev pub unused_tables : ℕ → List ObjectName → Mentions → Mentions
unused_tables place [] mentions = []
unused_tables place (table ∷ tables) mentions = cond (list_any (is_of_place place) mentions) [] (table_mentions table) ++ unused_tables (place + 1) tables mentions

-- the mentions of a SELECT with these tables
abbrev pub closed_mentions : List ObjectName → Mentions → Mentions
closed_mentions tables mentions = flat_map (seen_outside tables) mentions ++ unused_tables 0 tables mentions

abbrev pub join_mentions_step : Join-F Joined Mentions Mentions Mentions Mentions Mentions Mentions Chained Mentions Mentions Mentions Mentions Mentions Mentions Mentions Mentions Mentions Mentions Mentions → Joined
join_mentions_step (Join-F.Inner table on) = (table.table, on)
join_mentions_step (Join-F.Cross table) = (table.table, [])

abbrev pub operand_mentions_step : Operand-F Joined Mentions Mentions Mentions Mentions Mentions Mentions Chained Mentions Mentions Mentions Mentions Mentions Mentions Mentions Mentions Mentions Mentions Mentions → Mentions
operand_mentions_step (Operand-F.Reference reference) = reference_mentions reference
operand_mentions_step (Operand-F.Call routine arguments) = routine_mentions routine ++ all_mentions arguments
operand_mentions_step (Operand-F.Aggregate function argument) = argument
operand_mentions_step (Operand-F.Case arms otherwise) = all_mentions arms ++ optional_mentions otherwise
operand_mentions_step (Operand-F.Cast operand sort) = optional_mentions operand
operand_mentions_step (Operand-F.Exists query) = query
operand_mentions_step (Operand-F.Subquery query) = query
operand_mentions_step (Operand-F.Parenthesized expr) = expr
operand_mentions_step operand = []

abbrev pub select_item_mentions_step : SelectItem-F Joined Mentions Mentions Mentions Mentions Mentions Mentions Chained Mentions Mentions Mentions Mentions Mentions Mentions Mentions Mentions Mentions Mentions Mentions → Mentions
select_item_mentions_step (SelectItem-F.Expr expr name) = expr
select_item_mentions_step (SelectItem-F.QualifiedStar qualifier) = []

abbrev pub select_list_mentions_step : SelectList-F Joined Mentions Mentions Mentions Mentions Mentions Mentions Chained Mentions Mentions Mentions Mentions Mentions Mentions Mentions Mentions Mentions Mentions Mentions → Mentions
select_list_mentions_step SelectList-F.Star = []
select_list_mentions_step (SelectList-F.Listed items) = all_mentions items

abbrev pub tail_mentions_step : Tail-F Joined Mentions Mentions Mentions Mentions Mentions Mentions Chained Mentions Mentions Mentions Mentions Mentions Mentions Mentions Mentions Mentions Mentions Mentions → Mentions
tail_mentions_step (Tail-F.Compare by with) = with
tail_mentions_step (Tail-F.IsNull negated) = []
tail_mentions_step (Tail-F.Between negated low high) = low ++ high
tail_mentions_step (Tail-F.InQuery negated query) = query
tail_mentions_step (Tail-F.InList negated list) = all_mentions list
tail_mentions_step (Tail-F.Like negated pattern) = pattern

abbrev pub added_mentions_step : Added-F Joined Mentions Mentions Mentions Mentions Mentions Mentions Chained Mentions Mentions Mentions Mentions Mentions Mentions Mentions Mentions Mentions Mentions Mentions → Mentions
added_mentions_step a = a.term

abbrev pub arm_mentions_step : Arm-F Joined Mentions Mentions Mentions Mentions Mentions Mentions Chained Mentions Mentions Mentions Mentions Mentions Mentions Mentions Mentions Mentions Mentions Mentions → Mentions
arm_mentions_step a = a.condition ++ a.value

abbrev pub chain_mentions_step : Chain-F Joined Mentions Mentions Mentions Mentions Mentions Mentions Chained Mentions Mentions Mentions Mentions Mentions Mentions Mentions Mentions Mentions Mentions Mentions → Chained
chain_mentions_step c = (c.first.table ∷ map (λ j. j.0) c.joins, flat_map (λ j. j.1) c.joins)

abbrev pub conjunction_mentions_step : Conjunction-F Joined Mentions Mentions Mentions Mentions Mentions Mentions Chained Mentions Mentions Mentions Mentions Mentions Mentions Mentions Mentions Mentions Mentions Mentions → Mentions
conjunction_mentions_step c = all_mentions c.every

abbrev pub expr_mentions_step : Expr-F Joined Mentions Mentions Mentions Mentions Mentions Mentions Chained Mentions Mentions Mentions Mentions Mentions Mentions Mentions Mentions Mentions Mentions Mentions → Mentions
expr_mentions_step e = all_mentions e.any

abbrev pub factor_mentions_step : Factor-F Joined Mentions Mentions Mentions Mentions Mentions Mentions Chained Mentions Mentions Mentions Mentions Mentions Mentions Mentions Mentions Mentions Mentions Mentions → Mentions
factor_mentions_step f = f.operand

abbrev pub further_mentions_step : Further-F Joined Mentions Mentions Mentions Mentions Mentions Mentions Chained Mentions Mentions Mentions Mentions Mentions Mentions Mentions Mentions Mentions Mentions Mentions → Mentions
further_mentions_step f = f.select

abbrev pub multiplied_mentions_step : Multiplied-F Joined Mentions Mentions Mentions Mentions Mentions Mentions Chained Mentions Mentions Mentions Mentions Mentions Mentions Mentions Mentions Mentions Mentions Mentions → Mentions
multiplied_mentions_step m = m.factor

abbrev pub negation_mentions_step : Negation-F Joined Mentions Mentions Mentions Mentions Mentions Mentions Chained Mentions Mentions Mentions Mentions Mentions Mentions Mentions Mentions Mentions Mentions Mentions → Mentions
negation_mentions_step n = n.predicate

abbrev pub predicate_mentions_step : Predicate-F Joined Mentions Mentions Mentions Mentions Mentions Mentions Chained Mentions Mentions Mentions Mentions Mentions Mentions Mentions Mentions Mentions Mentions Mentions → Mentions
predicate_mentions_step p = p.tested ++ optional_mentions p.tail

abbrev pub query_mentions_step : Query-F Joined Mentions Mentions Mentions Mentions Mentions Mentions Chained Mentions Mentions Mentions Mentions Mentions Mentions Mentions Mentions Mentions Mentions Mentions → Mentions
query_mentions_step q = q.first ++ all_mentions q.others

abbrev pub select_mentions_step : Select-F Joined Mentions Mentions Mentions Mentions Mentions Mentions Chained Mentions Mentions Mentions Mentions Mentions Mentions Mentions Mentions Mentions Mentions Mentions → Mentions
select_mentions_step s =
    closed_mentions (flat_map (λ c. c.0) s.from) (s.list ++ flat_map (λ c. c.1) s.from ++ optional_mentions s.filter ++ flat_map reference_mentions s.group_by)

abbrev pub sum_mentions_step : Sum-F Joined Mentions Mentions Mentions Mentions Mentions Mentions Chained Mentions Mentions Mentions Mentions Mentions Mentions Mentions Mentions Mentions Mentions Mentions → Mentions
sum_mentions_step s = s.first ++ all_mentions s.others

abbrev pub term_mentions_step : Term-F Joined Mentions Mentions Mentions Mentions Mentions Mentions Chained Mentions Mentions Mentions Mentions Mentions Mentions Mentions Mentions Mentions Mentions Mentions → Mentions
term_mentions_step t = t.first ++ all_mentions t.others

unfoldable pub expr_mentions : Expr → Mentions
expr_mentions = fold-Expr Joined Mentions Mentions Mentions Mentions Mentions Mentions Chained Mentions Mentions Mentions Mentions Mentions Mentions Mentions Mentions Mentions Mentions Mentions
    join_mentions_step operand_mentions_step select_item_mentions_step select_list_mentions_step tail_mentions_step added_mentions_step arm_mentions_step chain_mentions_step conjunction_mentions_step expr_mentions_step factor_mentions_step further_mentions_step multiplied_mentions_step negation_mentions_step predicate_mentions_step query_mentions_step select_mentions_step sum_mentions_step term_mentions_step

unfoldable pub query_mentions : Query → Mentions
query_mentions = fold-Query Joined Mentions Mentions Mentions Mentions Mentions Mentions Chained Mentions Mentions Mentions Mentions Mentions Mentions Mentions Mentions Mentions Mentions Mentions
    join_mentions_step operand_mentions_step select_item_mentions_step select_list_mentions_step tail_mentions_step added_mentions_step arm_mentions_step chain_mentions_step conjunction_mentions_step expr_mentions_step factor_mentions_step further_mentions_step multiplied_mentions_step negation_mentions_step predicate_mentions_step query_mentions_step select_mentions_step sum_mentions_step term_mentions_step
