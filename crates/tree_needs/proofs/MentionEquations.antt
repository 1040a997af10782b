-- What a tree mentions, one equation for each alternative.
use Rattle.std.proofs.Common.{◌≡◌, Bool, List, [], ◌∷◌, ◌++◌, Option, map, rules}
use Rattle.std.specs.Prelude.{option_map, flat_map}
use Rattle.sql_tree.specs.declared.expr.Comparison.{Comparison}
use Rattle.sql_tree.specs.declared.expr.Aggregate.{Aggregate}
use Rattle.sql_names.specs.NameBytes.{NameBytes}
use Rattle.sql_names.specs.declared.sort.SqlType.{SqlType}
use Rattle.sql_names.specs.declared.sort.Special.{Special}
use Rattle.sql_names.specs.declared.column.Reference.{Reference}
use Rattle.sql_names.specs.declared.column.ObjectName.{ObjectName}
use Rattle.sql_names.specs.declared.column.TableReference.{TableReference}
use Rattle.sql_tree.specs.declared.expr.Join.TheVariants as joins
use Rattle.sql_tree.specs.declared.expr.Operand.TheVariants as operands
use Rattle.sql_tree.specs.declared.expr.SelectItem.{SelectItem}
use Rattle.sql_tree.specs.declared.expr.SelectItem.TheVariants as items
use Rattle.sql_tree.specs.declared.expr.SelectList.TheVariants as lists
use Rattle.sql_tree.specs.declared.expr.Tail.TheVariants as tails
use Rattle.sql_tree.specs.declared.expr.Added.{Added, out-Added}
use Rattle.sql_tree.specs.declared.expr.Arm.{Arm, out-Arm}
use Rattle.sql_tree.specs.declared.expr.Chain.{Chain, out-Chain}
use Rattle.sql_tree.specs.declared.expr.Conjunction.{Conjunction, out-Conjunction}
use Rattle.sql_tree.specs.declared.expr.Expr.{Expr, out-Expr, the_lemmas}
use Rattle.sql_tree.specs.declared.expr.Factor.{Factor, out-Factor}
use Rattle.sql_tree.specs.declared.expr.Further.{Further, out-Further}
use Rattle.sql_tree.specs.declared.expr.Multiplied.{Multiplied, out-Multiplied}
use Rattle.sql_tree.specs.declared.expr.Negation.{Negation, out-Negation}
use Rattle.sql_tree.specs.declared.expr.Predicate.{Predicate, out-Predicate}
use Rattle.sql_tree.specs.declared.expr.Query.{Query, out-Query}
use Rattle.sql_tree.specs.declared.expr.Select.{Select, out-Select}
use Rattle.sql_tree.specs.declared.expr.Sum.{Sum, out-Sum}
use Rattle.sql_tree.specs.declared.expr.Term.{Term, out-Term}
use Rattle.cat_items.specs.Mentions.{reference_mentions, routine_mentions, all_mentions, optional_mentions, closed_mentions, expr_mentions, query_mentions}
use Rattle.tree_needs.specs.Mentioned.{join_mentions, operand_mentions, select_item_mentions, select_list_mentions, tail_mentions, added_mentions, arm_mentions, chain_mentions, conjunction_mentions, factor_mentions, further_mentions, multiplied_mentions, negation_mentions, predicate_mentions, select_mentions, sum_mentions, term_mentions}

pub mentions_Join_Inner : (t : TableReference) (on : Expr) → join_mentions (joins.Inner t on) ≡ (t.table, (expr_mentions on))
unfolding join_mentions operand_mentions select_item_mentions select_list_mentions tail_mentions added_mentions arm_mentions chain_mentions conjunction_mentions expr_mentions factor_mentions further_mentions multiplied_mentions negation_mentions predicate_mentions query_mentions select_mentions sum_mentions term_mentions
mentions_Join_Inner t on = search (rules, the_lemmas)

pub mentions_Join_Cross : (t : TableReference) → join_mentions (joins.Cross t) ≡ (t.table, [])
unfolding join_mentions operand_mentions select_item_mentions select_list_mentions tail_mentions added_mentions arm_mentions chain_mentions conjunction_mentions expr_mentions factor_mentions further_mentions multiplied_mentions negation_mentions predicate_mentions query_mentions select_mentions sum_mentions term_mentions
mentions_Join_Cross t = search (rules, the_lemmas)

pub mentions_Operand_Literal : (text : NameBytes) → operand_mentions (operands.Literal text) ≡ []
unfolding join_mentions operand_mentions select_item_mentions select_list_mentions tail_mentions added_mentions arm_mentions chain_mentions conjunction_mentions expr_mentions factor_mentions further_mentions multiplied_mentions negation_mentions predicate_mentions query_mentions select_mentions sum_mentions term_mentions
mentions_Operand_Literal text = search (rules, the_lemmas)

pub mentions_Operand_Number : (text : NameBytes) → operand_mentions (operands.Number text) ≡ []
unfolding join_mentions operand_mentions select_item_mentions select_list_mentions tail_mentions added_mentions arm_mentions chain_mentions conjunction_mentions expr_mentions factor_mentions further_mentions multiplied_mentions negation_mentions predicate_mentions query_mentions select_mentions sum_mentions term_mentions
mentions_Operand_Number text = search (rules, the_lemmas)

pub mentions_Operand_True : operand_mentions operands.True ≡ []
unfolding join_mentions operand_mentions select_item_mentions select_list_mentions tail_mentions added_mentions arm_mentions chain_mentions conjunction_mentions expr_mentions factor_mentions further_mentions multiplied_mentions negation_mentions predicate_mentions query_mentions select_mentions sum_mentions term_mentions
mentions_Operand_True = search (rules, the_lemmas)

pub mentions_Operand_False : operand_mentions operands.False ≡ []
unfolding join_mentions operand_mentions select_item_mentions select_list_mentions tail_mentions added_mentions arm_mentions chain_mentions conjunction_mentions expr_mentions factor_mentions further_mentions multiplied_mentions negation_mentions predicate_mentions query_mentions select_mentions sum_mentions term_mentions
mentions_Operand_False = search (rules, the_lemmas)

pub mentions_Operand_Special : (special : Special) → operand_mentions (operands.Special special) ≡ []
unfolding join_mentions operand_mentions select_item_mentions select_list_mentions tail_mentions added_mentions arm_mentions chain_mentions conjunction_mentions expr_mentions factor_mentions further_mentions multiplied_mentions negation_mentions predicate_mentions query_mentions select_mentions sum_mentions term_mentions
mentions_Operand_Special special = search (rules, the_lemmas)

pub mentions_Operand_Value : operand_mentions operands.Value ≡ []
unfolding join_mentions operand_mentions select_item_mentions select_list_mentions tail_mentions added_mentions arm_mentions chain_mentions conjunction_mentions expr_mentions factor_mentions further_mentions multiplied_mentions negation_mentions predicate_mentions query_mentions select_mentions sum_mentions term_mentions
mentions_Operand_Value = search (rules, the_lemmas)

pub mentions_Operand_Reference : (r : Reference) → operand_mentions (operands.Reference r) ≡ reference_mentions r
unfolding join_mentions operand_mentions select_item_mentions select_list_mentions tail_mentions added_mentions arm_mentions chain_mentions conjunction_mentions expr_mentions factor_mentions further_mentions multiplied_mentions negation_mentions predicate_mentions query_mentions select_mentions sum_mentions term_mentions
mentions_Operand_Reference r = search (rules, the_lemmas)

pub mentions_Operand_Call : (f : ObjectName) (es : List Expr) → operand_mentions (operands.Call f es) ≡ routine_mentions f ++ all_mentions (map expr_mentions es)
unfolding join_mentions operand_mentions select_item_mentions select_list_mentions tail_mentions added_mentions arm_mentions chain_mentions conjunction_mentions expr_mentions factor_mentions further_mentions multiplied_mentions negation_mentions predicate_mentions query_mentions select_mentions sum_mentions term_mentions
mentions_Operand_Call f es = search (rules, the_lemmas)

pub mentions_Operand_CountAll : operand_mentions operands.CountAll ≡ []
unfolding join_mentions operand_mentions select_item_mentions select_list_mentions tail_mentions added_mentions arm_mentions chain_mentions conjunction_mentions expr_mentions factor_mentions further_mentions multiplied_mentions negation_mentions predicate_mentions query_mentions select_mentions sum_mentions term_mentions
mentions_Operand_CountAll = search (rules, the_lemmas)

pub mentions_Operand_Aggregate : (by : Aggregate) (e : Expr) → operand_mentions (operands.Aggregate by e) ≡ (expr_mentions e)
unfolding join_mentions operand_mentions select_item_mentions select_list_mentions tail_mentions added_mentions arm_mentions chain_mentions conjunction_mentions expr_mentions factor_mentions further_mentions multiplied_mentions negation_mentions predicate_mentions query_mentions select_mentions sum_mentions term_mentions
mentions_Operand_Aggregate by e = search (rules, the_lemmas)

pub mentions_Operand_Case : (arms : List Arm) (e : Option Expr) → operand_mentions (operands.Case arms e) ≡ all_mentions (map arm_mentions arms) ++ optional_mentions (option_map expr_mentions e)
unfolding join_mentions operand_mentions select_item_mentions select_list_mentions tail_mentions added_mentions arm_mentions chain_mentions conjunction_mentions expr_mentions factor_mentions further_mentions multiplied_mentions negation_mentions predicate_mentions query_mentions select_mentions sum_mentions term_mentions
mentions_Operand_Case arms e = search (rules, the_lemmas)

pub mentions_Operand_Cast : (e : Option Expr) (sort : SqlType) → operand_mentions (operands.Cast e sort) ≡ optional_mentions (option_map expr_mentions e)
unfolding join_mentions operand_mentions select_item_mentions select_list_mentions tail_mentions added_mentions arm_mentions chain_mentions conjunction_mentions expr_mentions factor_mentions further_mentions multiplied_mentions negation_mentions predicate_mentions query_mentions select_mentions sum_mentions term_mentions
mentions_Operand_Cast e sort = search (rules, the_lemmas)

pub mentions_Operand_Exists : (q : Query) → operand_mentions (operands.Exists q) ≡ (query_mentions q)
unfolding join_mentions operand_mentions select_item_mentions select_list_mentions tail_mentions added_mentions arm_mentions chain_mentions conjunction_mentions expr_mentions factor_mentions further_mentions multiplied_mentions negation_mentions predicate_mentions query_mentions select_mentions sum_mentions term_mentions
mentions_Operand_Exists q = search (rules, the_lemmas)

pub mentions_Operand_Subquery : (q : Query) → operand_mentions (operands.Subquery q) ≡ (query_mentions q)
unfolding join_mentions operand_mentions select_item_mentions select_list_mentions tail_mentions added_mentions arm_mentions chain_mentions conjunction_mentions expr_mentions factor_mentions further_mentions multiplied_mentions negation_mentions predicate_mentions query_mentions select_mentions sum_mentions term_mentions
mentions_Operand_Subquery q = search (rules, the_lemmas)

pub mentions_Operand_Parenthesized : (e : Expr) → operand_mentions (operands.Parenthesized e) ≡ (expr_mentions e)
unfolding join_mentions operand_mentions select_item_mentions select_list_mentions tail_mentions added_mentions arm_mentions chain_mentions conjunction_mentions expr_mentions factor_mentions further_mentions multiplied_mentions negation_mentions predicate_mentions query_mentions select_mentions sum_mentions term_mentions
mentions_Operand_Parenthesized e = search (rules, the_lemmas)

pub mentions_SelectItem_Expr : (e : Expr) (name : Option NameBytes) → select_item_mentions (items.Expr e name) ≡ (expr_mentions e)
unfolding join_mentions operand_mentions select_item_mentions select_list_mentions tail_mentions added_mentions arm_mentions chain_mentions conjunction_mentions expr_mentions factor_mentions further_mentions multiplied_mentions negation_mentions predicate_mentions query_mentions select_mentions sum_mentions term_mentions
mentions_SelectItem_Expr e name = search (rules, the_lemmas)

pub mentions_SelectItem_QualifiedStar : (name : NameBytes) → select_item_mentions (items.QualifiedStar name) ≡ []
unfolding join_mentions operand_mentions select_item_mentions select_list_mentions tail_mentions added_mentions arm_mentions chain_mentions conjunction_mentions expr_mentions factor_mentions further_mentions multiplied_mentions negation_mentions predicate_mentions query_mentions select_mentions sum_mentions term_mentions
mentions_SelectItem_QualifiedStar name = search (rules, the_lemmas)

pub mentions_SelectList_Star : select_list_mentions lists.Star ≡ []
unfolding join_mentions operand_mentions select_item_mentions select_list_mentions tail_mentions added_mentions arm_mentions chain_mentions conjunction_mentions expr_mentions factor_mentions further_mentions multiplied_mentions negation_mentions predicate_mentions query_mentions select_mentions sum_mentions term_mentions
mentions_SelectList_Star = search (rules, the_lemmas)

pub mentions_SelectList_Listed : (is : List SelectItem) → select_list_mentions (lists.Listed is) ≡ all_mentions (map select_item_mentions is)
unfolding join_mentions operand_mentions select_item_mentions select_list_mentions tail_mentions added_mentions arm_mentions chain_mentions conjunction_mentions expr_mentions factor_mentions further_mentions multiplied_mentions negation_mentions predicate_mentions query_mentions select_mentions sum_mentions term_mentions
mentions_SelectList_Listed is = search (rules, the_lemmas)

pub mentions_Tail_Compare : (by : Comparison) (x : Sum) → tail_mentions (tails.Compare by x) ≡ (sum_mentions x)
unfolding join_mentions operand_mentions select_item_mentions select_list_mentions tail_mentions added_mentions arm_mentions chain_mentions conjunction_mentions expr_mentions factor_mentions further_mentions multiplied_mentions negation_mentions predicate_mentions query_mentions select_mentions sum_mentions term_mentions
mentions_Tail_Compare by x = search (rules, the_lemmas)

pub mentions_Tail_IsNull : (negated : Bool) → tail_mentions (tails.IsNull negated) ≡ []
unfolding join_mentions operand_mentions select_item_mentions select_list_mentions tail_mentions added_mentions arm_mentions chain_mentions conjunction_mentions expr_mentions factor_mentions further_mentions multiplied_mentions negation_mentions predicate_mentions query_mentions select_mentions sum_mentions term_mentions
mentions_Tail_IsNull negated = search (rules, the_lemmas)

pub mentions_Tail_Between : (negated : Bool) (x : Sum) (y : Sum) → tail_mentions (tails.Between negated x y) ≡ (sum_mentions x) ++ (sum_mentions y)
unfolding join_mentions operand_mentions select_item_mentions select_list_mentions tail_mentions added_mentions arm_mentions chain_mentions conjunction_mentions expr_mentions factor_mentions further_mentions multiplied_mentions negation_mentions predicate_mentions query_mentions select_mentions sum_mentions term_mentions
mentions_Tail_Between negated x y = search (rules, the_lemmas)

pub mentions_Tail_InQuery : (negated : Bool) (q : Query) → tail_mentions (tails.InQuery negated q) ≡ (query_mentions q)
unfolding join_mentions operand_mentions select_item_mentions select_list_mentions tail_mentions added_mentions arm_mentions chain_mentions conjunction_mentions expr_mentions factor_mentions further_mentions multiplied_mentions negation_mentions predicate_mentions query_mentions select_mentions sum_mentions term_mentions
mentions_Tail_InQuery negated q = search (rules, the_lemmas)

pub mentions_Tail_InList : (negated : Bool) (es : List Expr) → tail_mentions (tails.InList negated es) ≡ all_mentions (map expr_mentions es)
unfolding join_mentions operand_mentions select_item_mentions select_list_mentions tail_mentions added_mentions arm_mentions chain_mentions conjunction_mentions expr_mentions factor_mentions further_mentions multiplied_mentions negation_mentions predicate_mentions query_mentions select_mentions sum_mentions term_mentions
mentions_Tail_InList negated es = search (rules, the_lemmas)

pub mentions_Tail_Like : (negated : Bool) (x : Sum) → tail_mentions (tails.Like negated x) ≡ (sum_mentions x)
unfolding join_mentions operand_mentions select_item_mentions select_list_mentions tail_mentions added_mentions arm_mentions chain_mentions conjunction_mentions expr_mentions factor_mentions further_mentions multiplied_mentions negation_mentions predicate_mentions query_mentions select_mentions sum_mentions term_mentions
mentions_Tail_Like negated x = search (rules, the_lemmas)

pub mentions_Added : (x : Added) → added_mentions x ≡ (term_mentions (out-Added x).term)
unfolding join_mentions operand_mentions select_item_mentions select_list_mentions tail_mentions added_mentions arm_mentions chain_mentions conjunction_mentions expr_mentions factor_mentions further_mentions multiplied_mentions negation_mentions predicate_mentions query_mentions select_mentions sum_mentions term_mentions
mentions_Added x = search (rules, the_lemmas)

pub mentions_Arm : (x : Arm) → arm_mentions x ≡ (expr_mentions (out-Arm x).condition) ++ (expr_mentions (out-Arm x).value)
unfolding join_mentions operand_mentions select_item_mentions select_list_mentions tail_mentions added_mentions arm_mentions chain_mentions conjunction_mentions expr_mentions factor_mentions further_mentions multiplied_mentions negation_mentions predicate_mentions query_mentions select_mentions sum_mentions term_mentions
mentions_Arm x = search (rules, the_lemmas)

pub mentions_Chain : (x : Chain) → chain_mentions x ≡ ((out-Chain x).first.table ∷ map (λ j. j.0) (map join_mentions (out-Chain x).joins), flat_map (λ j. j.1) (map join_mentions (out-Chain x).joins))
unfolding join_mentions operand_mentions select_item_mentions select_list_mentions tail_mentions added_mentions arm_mentions chain_mentions conjunction_mentions expr_mentions factor_mentions further_mentions multiplied_mentions negation_mentions predicate_mentions query_mentions select_mentions sum_mentions term_mentions
mentions_Chain x = search (rules, the_lemmas)

pub mentions_Conjunction : (x : Conjunction) → conjunction_mentions x ≡ all_mentions (map negation_mentions (out-Conjunction x).every)
unfolding join_mentions operand_mentions select_item_mentions select_list_mentions tail_mentions added_mentions arm_mentions chain_mentions conjunction_mentions expr_mentions factor_mentions further_mentions multiplied_mentions negation_mentions predicate_mentions query_mentions select_mentions sum_mentions term_mentions
mentions_Conjunction x = search (rules, the_lemmas)

pub mentions_Expr : (x : Expr) → expr_mentions x ≡ all_mentions (map conjunction_mentions (out-Expr x).any)
unfolding join_mentions operand_mentions select_item_mentions select_list_mentions tail_mentions added_mentions arm_mentions chain_mentions conjunction_mentions expr_mentions factor_mentions further_mentions multiplied_mentions negation_mentions predicate_mentions query_mentions select_mentions sum_mentions term_mentions
mentions_Expr x = search (rules, the_lemmas)

pub mentions_Factor : (x : Factor) → factor_mentions x ≡ (operand_mentions (out-Factor x).operand)
unfolding join_mentions operand_mentions select_item_mentions select_list_mentions tail_mentions added_mentions arm_mentions chain_mentions conjunction_mentions expr_mentions factor_mentions further_mentions multiplied_mentions negation_mentions predicate_mentions query_mentions select_mentions sum_mentions term_mentions
mentions_Factor x = search (rules, the_lemmas)

pub mentions_Further : (x : Further) → further_mentions x ≡ (select_mentions (out-Further x).select)
unfolding join_mentions operand_mentions select_item_mentions select_list_mentions tail_mentions added_mentions arm_mentions chain_mentions conjunction_mentions expr_mentions factor_mentions further_mentions multiplied_mentions negation_mentions predicate_mentions query_mentions select_mentions sum_mentions term_mentions
mentions_Further x = search (rules, the_lemmas)

pub mentions_Multiplied : (x : Multiplied) → multiplied_mentions x ≡ (factor_mentions (out-Multiplied x).factor)
unfolding join_mentions operand_mentions select_item_mentions select_list_mentions tail_mentions added_mentions arm_mentions chain_mentions conjunction_mentions expr_mentions factor_mentions further_mentions multiplied_mentions negation_mentions predicate_mentions query_mentions select_mentions sum_mentions term_mentions
mentions_Multiplied x = search (rules, the_lemmas)

pub mentions_Negation : (x : Negation) → negation_mentions x ≡ (predicate_mentions (out-Negation x).predicate)
unfolding join_mentions operand_mentions select_item_mentions select_list_mentions tail_mentions added_mentions arm_mentions chain_mentions conjunction_mentions expr_mentions factor_mentions further_mentions multiplied_mentions negation_mentions predicate_mentions query_mentions select_mentions sum_mentions term_mentions
mentions_Negation x = search (rules, the_lemmas)

pub mentions_Predicate : (x : Predicate) → predicate_mentions x ≡ (sum_mentions (out-Predicate x).tested) ++ optional_mentions (option_map tail_mentions (out-Predicate x).tail)
unfolding join_mentions operand_mentions select_item_mentions select_list_mentions tail_mentions added_mentions arm_mentions chain_mentions conjunction_mentions expr_mentions factor_mentions further_mentions multiplied_mentions negation_mentions predicate_mentions query_mentions select_mentions sum_mentions term_mentions
mentions_Predicate x = search (rules, the_lemmas)

pub mentions_Query : (x : Query) → query_mentions x ≡ (select_mentions (out-Query x).first) ++ all_mentions (map further_mentions (out-Query x).others)
unfolding join_mentions operand_mentions select_item_mentions select_list_mentions tail_mentions added_mentions arm_mentions chain_mentions conjunction_mentions expr_mentions factor_mentions further_mentions multiplied_mentions negation_mentions predicate_mentions query_mentions select_mentions sum_mentions term_mentions
mentions_Query x = search (rules, the_lemmas)

pub mentions_Select : (x : Select) → select_mentions x ≡ closed_mentions (flat_map (λ c. c.0) (map chain_mentions (out-Select x).from)) ((select_list_mentions (out-Select x).list) ++ flat_map (λ c. c.1) (map chain_mentions (out-Select x).from) ++ optional_mentions (option_map expr_mentions (out-Select x).filter) ++ flat_map reference_mentions (out-Select x).group_by)
unfolding join_mentions operand_mentions select_item_mentions select_list_mentions tail_mentions added_mentions arm_mentions chain_mentions conjunction_mentions expr_mentions factor_mentions further_mentions multiplied_mentions negation_mentions predicate_mentions query_mentions select_mentions sum_mentions term_mentions
mentions_Select x = search (rules, the_lemmas)

pub mentions_Sum : (x : Sum) → sum_mentions x ≡ (term_mentions (out-Sum x).first) ++ all_mentions (map added_mentions (out-Sum x).others)
unfolding join_mentions operand_mentions select_item_mentions select_list_mentions tail_mentions added_mentions arm_mentions chain_mentions conjunction_mentions expr_mentions factor_mentions further_mentions multiplied_mentions negation_mentions predicate_mentions query_mentions select_mentions sum_mentions term_mentions
mentions_Sum x = search (rules, the_lemmas)

pub mentions_Term : (x : Term) → term_mentions x ≡ (factor_mentions (out-Term x).first) ++ all_mentions (map multiplied_mentions (out-Term x).others)
unfolding join_mentions operand_mentions select_item_mentions select_list_mentions tail_mentions added_mentions arm_mentions chain_mentions conjunction_mentions expr_mentions factor_mentions further_mentions multiplied_mentions negation_mentions predicate_mentions query_mentions select_mentions sum_mentions term_mentions
mentions_Term x = search (rules, the_lemmas)

pub ruleset mentioned = (mentions_Join_Inner, mentions_Join_Cross, mentions_Operand_Literal, mentions_Operand_Number, mentions_Operand_True, mentions_Operand_False, mentions_Operand_Special, mentions_Operand_Value, mentions_Operand_Reference, mentions_Operand_Call, mentions_Operand_CountAll, mentions_Operand_Aggregate, mentions_Operand_Case, mentions_Operand_Cast, mentions_Operand_Exists, mentions_Operand_Subquery, mentions_Operand_Parenthesized, mentions_SelectItem_Expr, mentions_SelectItem_QualifiedStar, mentions_SelectList_Star, mentions_SelectList_Listed, mentions_Tail_Compare, mentions_Tail_IsNull, mentions_Tail_Between, mentions_Tail_InQuery, mentions_Tail_InList, mentions_Tail_Like, mentions_Added, mentions_Arm, mentions_Chain, mentions_Conjunction, mentions_Expr, mentions_Factor, mentions_Further, mentions_Multiplied, mentions_Negation, mentions_Predicate, mentions_Query, mentions_Select, mentions_Sum, mentions_Term)
