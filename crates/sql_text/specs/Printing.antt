-- How queries and expressions are printed: one step for each type, with one equation for each alternative. In a step each
-- part is already seen as its text. Words stand one space apart, with none behind "(" and "." and none before ")", "," and ".".
use Rattle.std.specs.Prelude.{Bool, List, [], ◌∷◌, ◌++◌, Option, Some, None, codes, if◌then◌else◌, map, flat_map}
use Rattle.sql_spelling.specs.Texts.{T, literal_text, name_text, object_name_text, reference_text, alias_text, table_text, type_text, special_text, minus_text}
use Rattle.sql_names.specs.declared.sort.SqlType.{SqlType}
use Rattle.sql_tree.specs.declared.expr.Comparison.{Comparison}
use Rattle.sql_tree.specs.declared.expr.Comparison.TheVariants as comparisons
use Rattle.sql_tree.specs.declared.expr.Additive.{Additive}
use Rattle.sql_tree.specs.declared.expr.Additive.TheVariants as additives
use Rattle.sql_tree.specs.declared.expr.Multiplicative.{Multiplicative}
use Rattle.sql_tree.specs.declared.expr.Multiplicative.TheVariants as multiplicatives
use Rattle.sql_tree.specs.declared.expr.Aggregate.{Aggregate}
use Rattle.sql_tree.specs.declared.expr.Aggregate.TheVariants as aggregates
use Rattle.sql_tree.specs.declared.expr.SetOperator.{SetOperator}
use Rattle.sql_tree.specs.declared.expr.SetOperator.TheVariants as operators
use Rattle.sql_tree.specs.declared.expr.Added.{Added, fold-Added}
use Rattle.sql_tree.specs.declared.expr.Arm.{Arm, fold-Arm}
use Rattle.sql_tree.specs.declared.expr.Chain.{Chain, fold-Chain}
use Rattle.sql_tree.specs.declared.expr.Conjunction.{Conjunction, fold-Conjunction}
use Rattle.sql_tree.specs.declared.expr.Expr.{Expr, fold-Expr}
use Rattle.sql_tree.specs.declared.expr.Factor.{Factor, fold-Factor}
use Rattle.sql_tree.specs.declared.expr.Further.{Further, fold-Further}
use Rattle.sql_tree.specs.declared.expr.Join.{Join, fold-Join}
use Rattle.sql_tree.specs.declared.expr.Multiplied.{Multiplied, fold-Multiplied}
use Rattle.sql_tree.specs.declared.expr.Negation.{Negation, fold-Negation}
use Rattle.sql_tree.specs.declared.expr.Operand.{Operand, fold-Operand}
use Rattle.sql_tree.specs.declared.expr.Predicate.{Predicate, fold-Predicate}
use Rattle.sql_tree.specs.declared.expr.Query.{Query, fold-Query}
use Rattle.sql_tree.specs.declared.expr.Select.{Select, fold-Select}
use Rattle.sql_tree.specs.declared.expr.SelectItem.{SelectItem, fold-SelectItem}
use Rattle.sql_tree.specs.declared.expr.SelectList.{SelectList, fold-SelectList}
use Rattle.sql_tree.specs.declared.expr.Sum.{Sum, fold-Sum}
use Rattle.sql_tree.specs.declared.expr.Tail.{Tail, fold-Tail}
use Rattle.sql_tree.specs.declared.expr.Term.{Term, fold-Term}
use Rattle.sql_tree.specs.declared.expr.Join.TheOpen.{Added-F, Arm-F, Chain-F, Conjunction-F, Expr-F, Factor-F, Further-F, Join-F, Multiplied-F, Negation-F, Operand-F, Predicate-F, Query-F, Select-F, SelectItem-F, SelectList-F, Sum-F, Tail-F, Term-F}

-- texts with a separator between two
abbrev pub separated : T → List T → T
separated by [] = []
separated by (t ∷ ts) = t ++ flat_map (λ u. by ++ u) ts

-- texts one after the other
abbrev pub joined : List T → T
joined ts = flat_map (λ t. t) ts

abbrev pub comparison_text : Comparison → T
comparison_text comparisons.Equal = codes " = "
comparison_text comparisons.NotEqual = codes " <> "
comparison_text comparisons.Less = codes " < "
comparison_text comparisons.LessOrEqual = codes " <= "
comparison_text comparisons.Greater = codes " > "
comparison_text comparisons.GreaterOrEqual = codes " >= "

abbrev pub additive_text : Additive → T
additive_text additives.Plus = codes " + "
additive_text additives.Minus = codes " - "
additive_text additives.Concatenation = codes " || "

abbrev pub multiplicative_text : Multiplicative → T
multiplicative_text multiplicatives.Times = codes " * "
multiplicative_text multiplicatives.Divided = codes " / "

abbrev pub aggregate_text : Aggregate → T
aggregate_text aggregates.Count = codes "COUNT("
aggregate_text aggregates.Sum = codes "SUM("
aggregate_text aggregates.Min = codes "MIN("
aggregate_text aggregates.Max = codes "MAX("
aggregate_text aggregates.Avg = codes "AVG("

abbrev pub operator_text : SetOperator → Bool → T
operator_text operators.Union all = if all then codes " UNION ALL " else codes " UNION "
operator_text operators.Except all = if all then codes " EXCEPT ALL " else codes " EXCEPT "

abbrev pub not_text : Bool → T
not_text negated = if negated then codes "NOT " else []

abbrev pub distinct_text : Bool → T
distinct_text distinct = if distinct then codes "SELECT DISTINCT " else codes "SELECT "

abbrev pub group_text : List T → T
group_text [] = []
group_text (t ∷ ts) = codes " GROUP BY " ++ separated (codes ", ") (t ∷ ts)

-- a part with a word in front, where there is one
abbrev pub optional_text : T → Option T → T
optional_text word None = []
optional_text word (Some t) = word ++ t

-- NULL where there is none
abbrev pub or_null_text : Option T → T
or_null_text None = codes "NULL"
or_null_text (Some t) = t

abbrev pub call_text : T → List T → T
call_text routine arguments = routine ++ codes "(" ++ separated (codes ", ") arguments ++ codes ")"

abbrev pub subquery_text : T → T
subquery_text query = codes "(" ++ query ++ codes ")"

abbrev pub cast_text : Option T → SqlType → T
cast_text operand sort = codes "CAST(" ++ or_null_text operand ++ codes " AS " ++ type_text sort ++ codes ")"

abbrev pub added_step : Added-F T T T T T T T T T T T T T T T T T T T → T
added_step a = additive_text a.by ++ a.term

abbrev pub arm_step : Arm-F T T T T T T T T T T T T T T T T T T T → T
arm_step a = codes " WHEN " ++ a.condition ++ codes " THEN " ++ a.value

abbrev pub chain_step : Chain-F T T T T T T T T T T T T T T T T T T T → T
chain_step c = table_text c.first ++ joined c.joins

abbrev pub conjunction_step : Conjunction-F T T T T T T T T T T T T T T T T T T T → T
conjunction_step c = separated (codes " AND ") c.every

abbrev pub expr_step : Expr-F T T T T T T T T T T T T T T T T T T T → T
expr_step e = separated (codes " OR ") e.any

abbrev pub factor_step : Factor-F T T T T T T T T T T T T T T T T T T T → T
factor_step f = minus_text f.minus ++ f.operand

abbrev pub further_step : Further-F T T T T T T T T T T T T T T T T T T T → T
further_step f = operator_text f.by f.all ++ f.select

abbrev pub join_step : Join-F T T T T T T T T T T T T T T T T T T T → T
join_step (Join-F.Inner table on) = codes " JOIN " ++ table_text table ++ codes " ON " ++ on
join_step (Join-F.Cross table) = codes " CROSS JOIN " ++ table_text table

abbrev pub multiplied_step : Multiplied-F T T T T T T T T T T T T T T T T T T T → T
multiplied_step m = multiplicative_text m.by ++ m.factor

abbrev pub negation_step : Negation-F T T T T T T T T T T T T T T T T T T T → T
negation_step n = not_text n.negated ++ n.predicate

abbrev pub operand_step : Operand-F T T T T T T T T T T T T T T T T T T T → T
operand_step (Operand-F.Literal text) = literal_text text
operand_step (Operand-F.Number text) = text
operand_step Operand-F.True = codes "TRUE"
operand_step Operand-F.False = codes "FALSE"
operand_step (Operand-F.Special special) = special_text special
operand_step Operand-F.Value = codes "VALUE"
operand_step (Operand-F.Reference reference) = reference_text reference
operand_step (Operand-F.Call routine arguments) = call_text (object_name_text routine) arguments
operand_step Operand-F.CountAll = codes "COUNT(*)"
operand_step (Operand-F.Aggregate function argument) = aggregate_text function ++ argument ++ codes ")"
operand_step (Operand-F.Case arms otherwise) = codes "CASE" ++ joined arms ++ optional_text (codes " ELSE ") otherwise ++ codes " END"
operand_step (Operand-F.Cast operand sort) = cast_text operand sort
operand_step (Operand-F.Exists query) = codes "EXISTS " ++ subquery_text query
operand_step (Operand-F.Subquery query) = subquery_text query
operand_step (Operand-F.Parenthesized expr) = codes "(" ++ expr ++ codes ")"

abbrev pub predicate_step : Predicate-F T T T T T T T T T T T T T T T T T T T → T
predicate_step p = p.tested ++ optional_text [] p.tail

abbrev pub query_step : Query-F T T T T T T T T T T T T T T T T T T T → T
query_step q = q.first ++ joined q.others

abbrev pub select_step : Select-F T T T T T T T T T T T T T T T T T T T → T
select_step s =
    distinct_text s.distinct ++ s.list ++ codes " FROM " ++ separated (codes ", ") s.from ++ optional_text (codes " WHERE ") s.filter
    ++ group_text (map reference_text s.group_by)

abbrev pub select_item_step : SelectItem-F T T T T T T T T T T T T T T T T T T T → T
select_item_step (SelectItem-F.Expr expr name) = expr ++ alias_text name
select_item_step (SelectItem-F.QualifiedStar qualifier) = name_text qualifier ++ codes ".*"

abbrev pub select_list_step : SelectList-F T T T T T T T T T T T T T T T T T T T → T
select_list_step SelectList-F.Star = codes "*"
select_list_step (SelectList-F.Listed items) = separated (codes ", ") items

abbrev pub sum_step : Sum-F T T T T T T T T T T T T T T T T T T T → T
sum_step s = s.first ++ joined s.others

abbrev pub tail_step : Tail-F T T T T T T T T T T T T T T T T T T T → T
tail_step (Tail-F.Compare by with) = comparison_text by ++ with
tail_step (Tail-F.IsNull negated) = codes " IS " ++ not_text negated ++ codes "NULL"
tail_step (Tail-F.Between negated low high) = codes " " ++ not_text negated ++ codes "BETWEEN " ++ low ++ codes " AND " ++ high
tail_step (Tail-F.InQuery negated query) = codes " " ++ not_text negated ++ codes "IN (" ++ query ++ codes ")"
tail_step (Tail-F.InList negated list) = codes " " ++ not_text negated ++ codes "IN (" ++ separated (codes ", ") list ++ codes ")"
tail_step (Tail-F.Like negated pattern) = codes " " ++ not_text negated ++ codes "LIKE " ++ pattern

abbrev pub term_step : Term-F T T T T T T T T T T T T T T T T T T T → T
term_step t = t.first ++ joined t.others

unfoldable pub expr_text : Expr → T
expr_text = fold-Expr T T T T T T T T T T T T T T T T T T T
    join_step operand_step select_item_step select_list_step tail_step added_step arm_step chain_step conjunction_step expr_step factor_step further_step multiplied_step negation_step predicate_step query_step select_step sum_step term_step

unfoldable pub query_text : Query → T
query_text = fold-Query T T T T T T T T T T T T T T T T T T T
    join_step operand_step select_item_step select_list_step tail_step added_step arm_step chain_step conjunction_step expr_step factor_step further_step multiplied_step negation_step predicate_step query_step select_step sum_step term_step

unfoldable pub added_text : Added → T
added_text = fold-Added T T T T T T T T T T T T T T T T T T T
    join_step operand_step select_item_step select_list_step tail_step added_step arm_step chain_step conjunction_step expr_step factor_step further_step multiplied_step negation_step predicate_step query_step select_step sum_step term_step

unfoldable pub arm_text : Arm → T
arm_text = fold-Arm T T T T T T T T T T T T T T T T T T T
    join_step operand_step select_item_step select_list_step tail_step added_step arm_step chain_step conjunction_step expr_step factor_step further_step multiplied_step negation_step predicate_step query_step select_step sum_step term_step

unfoldable pub chain_text : Chain → T
chain_text = fold-Chain T T T T T T T T T T T T T T T T T T T
    join_step operand_step select_item_step select_list_step tail_step added_step arm_step chain_step conjunction_step expr_step factor_step further_step multiplied_step negation_step predicate_step query_step select_step sum_step term_step

unfoldable pub conjunction_text : Conjunction → T
conjunction_text = fold-Conjunction T T T T T T T T T T T T T T T T T T T
    join_step operand_step select_item_step select_list_step tail_step added_step arm_step chain_step conjunction_step expr_step factor_step further_step multiplied_step negation_step predicate_step query_step select_step sum_step term_step

unfoldable pub factor_text : Factor → T
factor_text = fold-Factor T T T T T T T T T T T T T T T T T T T
    join_step operand_step select_item_step select_list_step tail_step added_step arm_step chain_step conjunction_step expr_step factor_step further_step multiplied_step negation_step predicate_step query_step select_step sum_step term_step

unfoldable pub further_text : Further → T
further_text = fold-Further T T T T T T T T T T T T T T T T T T T
    join_step operand_step select_item_step select_list_step tail_step added_step arm_step chain_step conjunction_step expr_step factor_step further_step multiplied_step negation_step predicate_step query_step select_step sum_step term_step

unfoldable pub join_text : Join → T
join_text = fold-Join T T T T T T T T T T T T T T T T T T T
    join_step operand_step select_item_step select_list_step tail_step added_step arm_step chain_step conjunction_step expr_step factor_step further_step multiplied_step negation_step predicate_step query_step select_step sum_step term_step

unfoldable pub multiplied_text : Multiplied → T
multiplied_text = fold-Multiplied T T T T T T T T T T T T T T T T T T T
    join_step operand_step select_item_step select_list_step tail_step added_step arm_step chain_step conjunction_step expr_step factor_step further_step multiplied_step negation_step predicate_step query_step select_step sum_step term_step

unfoldable pub negation_text : Negation → T
negation_text = fold-Negation T T T T T T T T T T T T T T T T T T T
    join_step operand_step select_item_step select_list_step tail_step added_step arm_step chain_step conjunction_step expr_step factor_step further_step multiplied_step negation_step predicate_step query_step select_step sum_step term_step

unfoldable pub operand_text : Operand → T
operand_text = fold-Operand T T T T T T T T T T T T T T T T T T T
    join_step operand_step select_item_step select_list_step tail_step added_step arm_step chain_step conjunction_step expr_step factor_step further_step multiplied_step negation_step predicate_step query_step select_step sum_step term_step

unfoldable pub predicate_text : Predicate → T
predicate_text = fold-Predicate T T T T T T T T T T T T T T T T T T T
    join_step operand_step select_item_step select_list_step tail_step added_step arm_step chain_step conjunction_step expr_step factor_step further_step multiplied_step negation_step predicate_step query_step select_step sum_step term_step

unfoldable pub select_text : Select → T
select_text = fold-Select T T T T T T T T T T T T T T T T T T T
    join_step operand_step select_item_step select_list_step tail_step added_step arm_step chain_step conjunction_step expr_step factor_step further_step multiplied_step negation_step predicate_step query_step select_step sum_step term_step

unfoldable pub select_item_text : SelectItem → T
select_item_text = fold-SelectItem T T T T T T T T T T T T T T T T T T T
    join_step operand_step select_item_step select_list_step tail_step added_step arm_step chain_step conjunction_step expr_step factor_step further_step multiplied_step negation_step predicate_step query_step select_step sum_step term_step

unfoldable pub select_list_text : SelectList → T
select_list_text = fold-SelectList T T T T T T T T T T T T T T T T T T T
    join_step operand_step select_item_step select_list_step tail_step added_step arm_step chain_step conjunction_step expr_step factor_step further_step multiplied_step negation_step predicate_step query_step select_step sum_step term_step

unfoldable pub sum_text : Sum → T
sum_text = fold-Sum T T T T T T T T T T T T T T T T T T T
    join_step operand_step select_item_step select_list_step tail_step added_step arm_step chain_step conjunction_step expr_step factor_step further_step multiplied_step negation_step predicate_step query_step select_step sum_step term_step

unfoldable pub tail_text : Tail → T
tail_text = fold-Tail T T T T T T T T T T T T T T T T T T T
    join_step operand_step select_item_step select_list_step tail_step added_step arm_step chain_step conjunction_step expr_step factor_step further_step multiplied_step negation_step predicate_step query_step select_step sum_step term_step

unfoldable pub term_text : Term → T
term_text = fold-Term T T T T T T T T T T T T T T T T T T T
    join_step operand_step select_item_step select_list_step tail_step added_step arm_step chain_step conjunction_step expr_step factor_step further_step multiplied_step negation_step predicate_step query_step select_step sum_step term_step
