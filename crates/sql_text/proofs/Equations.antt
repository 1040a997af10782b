-- The printed texts, one equation for each alternative.
use Rattle.std.proofs.Common.{◌≡◌, Bool, List, [], ◌++◌, Option, Some, None, codes, map, rules}
use Rattle.std.specs.Prelude.{option_map}
use Rattle.sql_spelling.specs.Texts.{T, literal_text, name_text, object_name_text, reference_text, alias_text, table_text, special_text, minus_text}
use Rattle.sql_text.specs.Printing.{separated, joined, comparison_text, additive_text, multiplicative_text, aggregate_text, operator_text, not_text, distinct_text, group_text, optional_text, call_text, subquery_text, cast_text, added_text, arm_text, chain_text, conjunction_text, expr_text, factor_text, further_text, join_text, multiplied_text, negation_text, operand_text, predicate_text, query_text, select_text, select_item_text, select_list_text, sum_text, tail_text, term_text}
use Rattle.sql_tree.specs.declared.expr.Comparison.{Comparison}
use Rattle.sql_tree.specs.declared.expr.Aggregate.{Aggregate}
use Rattle.sql_tree.specs.declared.expr.Added.{Added, out-Added}
use Rattle.sql_tree.specs.declared.expr.Arm.{Arm, out-Arm}
use Rattle.sql_tree.specs.declared.expr.Chain.{Chain, out-Chain}
use Rattle.sql_tree.specs.declared.expr.Conjunction.{Conjunction, out-Conjunction}
use Rattle.sql_tree.specs.declared.expr.Expr.{Expr, out-Expr}
use Rattle.sql_tree.specs.declared.expr.Factor.{Factor, out-Factor}
use Rattle.sql_tree.specs.declared.expr.Further.{Further, out-Further}
use Rattle.sql_tree.specs.declared.expr.Multiplied.{Multiplied, out-Multiplied}
use Rattle.sql_tree.specs.declared.expr.Negation.{Negation, out-Negation}
use Rattle.sql_tree.specs.declared.expr.Predicate.{Predicate, out-Predicate}
use Rattle.sql_tree.specs.declared.expr.Query.{Query, out-Query}
use Rattle.sql_tree.specs.declared.expr.Select.{Select, out-Select}
use Rattle.sql_tree.specs.declared.expr.SelectItem.{SelectItem}
use Rattle.sql_tree.specs.declared.expr.Sum.{Sum, out-Sum}
use Rattle.sql_tree.specs.declared.expr.Term.{Term, out-Term}
use Rattle.sql_tree.specs.declared.expr.Join.TheVariants as joins
use Rattle.sql_tree.specs.declared.expr.Operand.TheVariants as operands
use Rattle.sql_tree.specs.declared.expr.SelectItem.TheVariants as select_items
use Rattle.sql_tree.specs.declared.expr.SelectList.TheVariants as select_lists
use Rattle.sql_tree.specs.declared.expr.Tail.TheVariants as tails
use Rattle.sql_names.specs.declared.sort.SqlType.{SqlType}
use Rattle.sql_names.specs.declared.sort.Special.{Special}
use Rattle.sql_names.specs.declared.column.Reference.{Reference}
use Rattle.sql_names.specs.declared.column.ObjectName.{ObjectName}
use Rattle.sql_names.specs.declared.column.TableReference.{TableReference}
use Rattle.sql_tree.specs.declared.expr.Expr.{the_lemmas}

pub text_Added : (x : Added) → added_text x ≡ additive_text (out-Added x).by ++ term_text (out-Added x).term
unfolding added_text arm_text chain_text conjunction_text expr_text factor_text further_text join_text multiplied_text negation_text operand_text predicate_text query_text select_text select_item_text select_list_text sum_text tail_text term_text
text_Added x = search (rules, the_lemmas)

pub text_Arm : (x : Arm) → arm_text x ≡ codes " WHEN " ++ expr_text (out-Arm x).condition ++ codes " THEN " ++ expr_text (out-Arm x).value
unfolding added_text arm_text chain_text conjunction_text expr_text factor_text further_text join_text multiplied_text negation_text operand_text predicate_text query_text select_text select_item_text select_list_text sum_text tail_text term_text
text_Arm x = search (rules, the_lemmas)

pub text_Chain : (x : Chain) → chain_text x ≡ table_text (out-Chain x).first ++ joined (map join_text (out-Chain x).joins)
unfolding added_text arm_text chain_text conjunction_text expr_text factor_text further_text join_text multiplied_text negation_text operand_text predicate_text query_text select_text select_item_text select_list_text sum_text tail_text term_text
text_Chain x = search (rules, the_lemmas)

pub text_Conjunction : (x : Conjunction) → conjunction_text x ≡ separated (codes " AND ") (map negation_text (out-Conjunction x).every)
unfolding added_text arm_text chain_text conjunction_text expr_text factor_text further_text join_text multiplied_text negation_text operand_text predicate_text query_text select_text select_item_text select_list_text sum_text tail_text term_text
text_Conjunction x = search (rules, the_lemmas)

pub text_Expr : (x : Expr) → expr_text x ≡ separated (codes " OR ") (map conjunction_text (out-Expr x).any)
unfolding added_text arm_text chain_text conjunction_text expr_text factor_text further_text join_text multiplied_text negation_text operand_text predicate_text query_text select_text select_item_text select_list_text sum_text tail_text term_text
text_Expr x = search (rules, the_lemmas)

pub text_Factor : (x : Factor) → factor_text x ≡ minus_text (out-Factor x).minus ++ operand_text (out-Factor x).operand
unfolding added_text arm_text chain_text conjunction_text expr_text factor_text further_text join_text multiplied_text negation_text operand_text predicate_text query_text select_text select_item_text select_list_text sum_text tail_text term_text
text_Factor x = search (rules, the_lemmas)

pub text_Further : (x : Further) → further_text x ≡ operator_text (out-Further x).by (out-Further x).all ++ select_text (out-Further x).select
unfolding added_text arm_text chain_text conjunction_text expr_text factor_text further_text join_text multiplied_text negation_text operand_text predicate_text query_text select_text select_item_text select_list_text sum_text tail_text term_text
text_Further x = search (rules, the_lemmas)

pub text_Multiplied : (x : Multiplied) → multiplied_text x ≡ multiplicative_text (out-Multiplied x).by ++ factor_text (out-Multiplied x).factor
unfolding added_text arm_text chain_text conjunction_text expr_text factor_text further_text join_text multiplied_text negation_text operand_text predicate_text query_text select_text select_item_text select_list_text sum_text tail_text term_text
text_Multiplied x = search (rules, the_lemmas)

pub text_Negation : (x : Negation) → negation_text x ≡ not_text (out-Negation x).negated ++ predicate_text (out-Negation x).predicate
unfolding added_text arm_text chain_text conjunction_text expr_text factor_text further_text join_text multiplied_text negation_text operand_text predicate_text query_text select_text select_item_text select_list_text sum_text tail_text term_text
text_Negation x = search (rules, the_lemmas)

pub text_Predicate : (x : Predicate) → predicate_text x ≡ sum_text (out-Predicate x).tested ++ optional_text [] (option_map tail_text (out-Predicate x).tail)
unfolding added_text arm_text chain_text conjunction_text expr_text factor_text further_text join_text multiplied_text negation_text operand_text predicate_text query_text select_text select_item_text select_list_text sum_text tail_text term_text
text_Predicate x = search (rules, the_lemmas)

pub text_Query : (x : Query) → query_text x ≡ select_text (out-Query x).first ++ joined (map further_text (out-Query x).others)
unfolding added_text arm_text chain_text conjunction_text expr_text factor_text further_text join_text multiplied_text negation_text operand_text predicate_text query_text select_text select_item_text select_list_text sum_text tail_text term_text
text_Query x = search (rules, the_lemmas)

pub text_Select : (x : Select) → select_text x ≡ distinct_text (out-Select x).distinct ++ select_list_text (out-Select x).list ++ codes " FROM " ++ separated (codes ", ") (map chain_text (out-Select x).from) ++ optional_text (codes " WHERE ") (option_map expr_text (out-Select x).filter) ++ group_text (map reference_text (out-Select x).group_by)
unfolding added_text arm_text chain_text conjunction_text expr_text factor_text further_text join_text multiplied_text negation_text operand_text predicate_text query_text select_text select_item_text select_list_text sum_text tail_text term_text
text_Select x = search (rules, the_lemmas)

pub text_Sum : (x : Sum) → sum_text x ≡ term_text (out-Sum x).first ++ joined (map added_text (out-Sum x).others)
unfolding added_text arm_text chain_text conjunction_text expr_text factor_text further_text join_text multiplied_text negation_text operand_text predicate_text query_text select_text select_item_text select_list_text sum_text tail_text term_text
text_Sum x = search (rules, the_lemmas)

pub text_Term : (x : Term) → term_text x ≡ factor_text (out-Term x).first ++ joined (map multiplied_text (out-Term x).others)
unfolding added_text arm_text chain_text conjunction_text expr_text factor_text further_text join_text multiplied_text negation_text operand_text predicate_text query_text select_text select_item_text select_list_text sum_text tail_text term_text
text_Term x = search (rules, the_lemmas)

pub text_Inner : (t : TableReference) (e : Expr) → join_text (joins.Inner t e) ≡ codes " JOIN " ++ table_text t ++ codes " ON " ++ expr_text e
unfolding added_text arm_text chain_text conjunction_text expr_text factor_text further_text join_text multiplied_text negation_text operand_text predicate_text query_text select_text select_item_text select_list_text sum_text tail_text term_text
text_Inner t e = search (rules, the_lemmas)

pub text_Cross : (t : TableReference) → join_text (joins.Cross t) ≡ codes " CROSS JOIN " ++ table_text t
unfolding added_text arm_text chain_text conjunction_text expr_text factor_text further_text join_text multiplied_text negation_text operand_text predicate_text query_text select_text select_item_text select_list_text sum_text tail_text term_text
text_Cross t = search (rules, the_lemmas)

pub text_Literal : (t : T) → operand_text (operands.Literal t) ≡ literal_text t
unfolding added_text arm_text chain_text conjunction_text expr_text factor_text further_text join_text multiplied_text negation_text operand_text predicate_text query_text select_text select_item_text select_list_text sum_text tail_text term_text
text_Literal t = search (rules, the_lemmas)

pub text_Number : (t : T) → operand_text (operands.Number t) ≡ t
unfolding added_text arm_text chain_text conjunction_text expr_text factor_text further_text join_text multiplied_text negation_text operand_text predicate_text query_text select_text select_item_text select_list_text sum_text tail_text term_text
text_Number t = search (rules, the_lemmas)

pub text_True : operand_text operands.True ≡ codes "TRUE"
unfolding added_text arm_text chain_text conjunction_text expr_text factor_text further_text join_text multiplied_text negation_text operand_text predicate_text query_text select_text select_item_text select_list_text sum_text tail_text term_text
text_True = search (rules, the_lemmas)

pub text_False : operand_text operands.False ≡ codes "FALSE"
unfolding added_text arm_text chain_text conjunction_text expr_text factor_text further_text join_text multiplied_text negation_text operand_text predicate_text query_text select_text select_item_text select_list_text sum_text tail_text term_text
text_False = search (rules, the_lemmas)

pub text_Special : (s : Special) → operand_text (operands.Special s) ≡ special_text s
unfolding added_text arm_text chain_text conjunction_text expr_text factor_text further_text join_text multiplied_text negation_text operand_text predicate_text query_text select_text select_item_text select_list_text sum_text tail_text term_text
text_Special s = search (rules, the_lemmas)

pub text_Value : operand_text operands.Value ≡ codes "VALUE"
unfolding added_text arm_text chain_text conjunction_text expr_text factor_text further_text join_text multiplied_text negation_text operand_text predicate_text query_text select_text select_item_text select_list_text sum_text tail_text term_text
text_Value = search (rules, the_lemmas)

pub text_Reference : (r : Reference) → operand_text (operands.Reference r) ≡ reference_text r
unfolding added_text arm_text chain_text conjunction_text expr_text factor_text further_text join_text multiplied_text negation_text operand_text predicate_text query_text select_text select_item_text select_list_text sum_text tail_text term_text
text_Reference r = search (rules, the_lemmas)

pub text_Call : (f : ObjectName) (es : List Expr) → operand_text (operands.Call f es) ≡ call_text (object_name_text f) (map expr_text es)
unfolding added_text arm_text chain_text conjunction_text expr_text factor_text further_text join_text multiplied_text negation_text operand_text predicate_text query_text select_text select_item_text select_list_text sum_text tail_text term_text
text_Call f es = search (rules, the_lemmas)

pub text_CountAll : operand_text operands.CountAll ≡ codes "COUNT(*)"
unfolding added_text arm_text chain_text conjunction_text expr_text factor_text further_text join_text multiplied_text negation_text operand_text predicate_text query_text select_text select_item_text select_list_text sum_text tail_text term_text
text_CountAll = search (rules, the_lemmas)

pub text_Aggregate : (f : Aggregate) (e : Expr) → operand_text (operands.Aggregate f e) ≡ aggregate_text f ++ expr_text e ++ codes ")"
unfolding added_text arm_text chain_text conjunction_text expr_text factor_text further_text join_text multiplied_text negation_text operand_text predicate_text query_text select_text select_item_text select_list_text sum_text tail_text term_text
text_Aggregate f e = search (rules, the_lemmas)

pub text_Case : (arms : List Arm) (e : Option Expr) → operand_text (operands.Case arms e) ≡ codes "CASE" ++ joined (map arm_text arms) ++ optional_text (codes " ELSE ") (option_map expr_text e) ++ codes " END"
unfolding added_text arm_text chain_text conjunction_text expr_text factor_text further_text join_text multiplied_text negation_text operand_text predicate_text query_text select_text select_item_text select_list_text sum_text tail_text term_text
text_Case arms None = search (rules, the_lemmas)
text_Case arms (Some e) = search (rules, the_lemmas)

pub text_Cast : (e : Option Expr) (s : SqlType) → operand_text (operands.Cast e s) ≡ cast_text (option_map expr_text e) s
unfolding added_text arm_text chain_text conjunction_text expr_text factor_text further_text join_text multiplied_text negation_text operand_text predicate_text query_text select_text select_item_text select_list_text sum_text tail_text term_text
text_Cast None s = search (rules, the_lemmas)
text_Cast (Some e) s = search (rules, the_lemmas)

pub text_Exists : (q : Query) → operand_text (operands.Exists q) ≡ codes "EXISTS " ++ subquery_text (query_text q)
unfolding added_text arm_text chain_text conjunction_text expr_text factor_text further_text join_text multiplied_text negation_text operand_text predicate_text query_text select_text select_item_text select_list_text sum_text tail_text term_text
text_Exists q = search (rules, the_lemmas)

pub text_Subquery : (q : Query) → operand_text (operands.Subquery q) ≡ subquery_text (query_text q)
unfolding added_text arm_text chain_text conjunction_text expr_text factor_text further_text join_text multiplied_text negation_text operand_text predicate_text query_text select_text select_item_text select_list_text sum_text tail_text term_text
text_Subquery q = search (rules, the_lemmas)

pub text_Parenthesized : (e : Expr) → operand_text (operands.Parenthesized e) ≡ codes "(" ++ expr_text e ++ codes ")"
unfolding added_text arm_text chain_text conjunction_text expr_text factor_text further_text join_text multiplied_text negation_text operand_text predicate_text query_text select_text select_item_text select_list_text sum_text tail_text term_text
text_Parenthesized e = search (rules, the_lemmas)

pub text_Item : (e : Expr) (n : Option T) → select_item_text (select_items.Expr e n) ≡ expr_text e ++ alias_text n
unfolding added_text arm_text chain_text conjunction_text expr_text factor_text further_text join_text multiplied_text negation_text operand_text predicate_text query_text select_text select_item_text select_list_text sum_text tail_text term_text
text_Item e n = search (rules, the_lemmas)

pub text_QualifiedStar : (n : T) → select_item_text (select_items.QualifiedStar n) ≡ name_text n ++ codes ".*"
unfolding added_text arm_text chain_text conjunction_text expr_text factor_text further_text join_text multiplied_text negation_text operand_text predicate_text query_text select_text select_item_text select_list_text sum_text tail_text term_text
text_QualifiedStar n = search (rules, the_lemmas)

pub text_Star : select_list_text select_lists.Star ≡ codes "*"
unfolding added_text arm_text chain_text conjunction_text expr_text factor_text further_text join_text multiplied_text negation_text operand_text predicate_text query_text select_text select_item_text select_list_text sum_text tail_text term_text
text_Star = search (rules, the_lemmas)

pub text_Listed : (items : List SelectItem) → select_list_text (select_lists.Listed items) ≡ separated (codes ", ") (map select_item_text items)
unfolding added_text arm_text chain_text conjunction_text expr_text factor_text further_text join_text multiplied_text negation_text operand_text predicate_text query_text select_text select_item_text select_list_text sum_text tail_text term_text
text_Listed items = search (rules, the_lemmas)

pub text_Compare : (by : Comparison) (s : Sum) → tail_text (tails.Compare by s) ≡ comparison_text by ++ sum_text s
unfolding added_text arm_text chain_text conjunction_text expr_text factor_text further_text join_text multiplied_text negation_text operand_text predicate_text query_text select_text select_item_text select_list_text sum_text tail_text term_text
text_Compare by s = search (rules, the_lemmas)

pub text_IsNull : (n : Bool) → tail_text (tails.IsNull n) ≡ codes " IS " ++ not_text n ++ codes "NULL"
unfolding added_text arm_text chain_text conjunction_text expr_text factor_text further_text join_text multiplied_text negation_text operand_text predicate_text query_text select_text select_item_text select_list_text sum_text tail_text term_text
text_IsNull n = search (rules, the_lemmas)

pub text_Between : (n : Bool) (a b : Sum) → tail_text (tails.Between n a b) ≡ codes " " ++ not_text n ++ codes "BETWEEN " ++ sum_text a ++ codes " AND " ++ sum_text b
unfolding added_text arm_text chain_text conjunction_text expr_text factor_text further_text join_text multiplied_text negation_text operand_text predicate_text query_text select_text select_item_text select_list_text sum_text tail_text term_text
text_Between n a b = search (rules, the_lemmas)

pub text_InQuery : (n : Bool) (q : Query) → tail_text (tails.InQuery n q) ≡ codes " " ++ not_text n ++ codes "IN (" ++ query_text q ++ codes ")"
unfolding added_text arm_text chain_text conjunction_text expr_text factor_text further_text join_text multiplied_text negation_text operand_text predicate_text query_text select_text select_item_text select_list_text sum_text tail_text term_text
text_InQuery n q = search (rules, the_lemmas)

pub text_InList : (n : Bool) (es : List Expr) → tail_text (tails.InList n es) ≡ codes " " ++ not_text n ++ codes "IN (" ++ separated (codes ", ") (map expr_text es) ++ codes ")"
unfolding added_text arm_text chain_text conjunction_text expr_text factor_text further_text join_text multiplied_text negation_text operand_text predicate_text query_text select_text select_item_text select_list_text sum_text tail_text term_text
text_InList n es = search (rules, the_lemmas)

pub text_Like : (n : Bool) (s : Sum) → tail_text (tails.Like n s) ≡ codes " " ++ not_text n ++ codes "LIKE " ++ sum_text s
unfolding added_text arm_text chain_text conjunction_text expr_text factor_text further_text join_text multiplied_text negation_text operand_text predicate_text query_text select_text select_item_text select_list_text sum_text tail_text term_text
text_Like n s = search (rules, the_lemmas)

-- the text of each alternative
pub ruleset texts = (text_Added, text_Arm, text_Chain, text_Conjunction, text_Expr, text_Factor, text_Further, text_Multiplied, text_Negation, text_Predicate, text_Query, text_Select, text_Sum, text_Term, text_Inner, text_Cross, text_Literal, text_Number, text_True, text_False, text_Special, text_Value, text_Reference, text_Call, text_CountAll, text_Aggregate, text_Case, text_Cast, text_Exists, text_Subquery, text_Parenthesized, text_Item, text_QualifiedStar, text_Star, text_Listed, text_Compare, text_IsNull, text_Between, text_InQuery, text_InList, text_Like)
