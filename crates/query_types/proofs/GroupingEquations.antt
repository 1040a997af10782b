-- One equation for each alternative of a tree.
use Rattle.sql_tree.specs.declared.expr.Comparison.{Comparison}
use Rattle.sql_tree.specs.declared.expr.Aggregate.{Aggregate}
use Rattle.sql_names.specs.declared.sort.SqlType.{SqlType}
use Rattle.sql_names.specs.declared.sort.Special.{Special}
use Rattle.sql_names.specs.declared.column.Reference.{Reference}
use Rattle.sql_names.specs.declared.column.ObjectName.{ObjectName}
use Rattle.sql_names.specs.declared.column.TableReference.{TableReference}
use Rattle.std.proofs.Common.{◌≡◌, Bool, List, Option, map, rules}
use Rattle.std.specs.Prelude.{option_map}
use Rattle.sql_names.specs.NameBytes.{NameBytes}
use Rattle.name_scopes.specs.Known.{}
use Rattle.query_types.specs.Aggregates.{nothing, both, join_all, perhaps, referred, aggregated, settled}
use Rattle.query_types.specs.Grouping.{join, operand, select_item, select_list, tail, added, arm, chain, conjunction, expr, factor, further, multiplied, negation, predicate, query, select, sum, term}
use Rattle.sql_tree.specs.declared.expr.Join.TheVariants as joins
use Rattle.sql_tree.specs.declared.expr.Operand.TheVariants as operands
use Rattle.sql_tree.specs.declared.expr.SelectItem.{SelectItem}
use Rattle.sql_tree.specs.declared.expr.SelectItem.TheVariants as items
use Rattle.sql_tree.specs.declared.expr.SelectList.TheVariants as lists
use Rattle.sql_tree.specs.declared.expr.Tail.TheVariants as tails
use Rattle.sql_tree.specs.declared.expr.Added.{Added, out-Added}
use Rattle.sql_tree.specs.declared.expr.Arm.{Arm, out-Arm}
use Rattle.sql_tree.specs.declared.expr.Chain.{Chain, out-Chain}
use Rattle.sql_tree.specs.declared.expr.Conjunction.{Conjunction, out-Conjunction}
use Rattle.sql_tree.specs.declared.expr.Expr.{Expr, out-Expr, the_lemmas}
use Rattle.sql_tree.specs.declared.expr.Factor.{Factor, out-Factor}
use Rattle.sql_tree.specs.declared.expr.Further.{Further, out-Further}
use Rattle.sql_tree.specs.declared.expr.Multiplied.{Multiplied, out-Multiplied}
use Rattle.sql_tree.specs.declared.expr.Negation.{Negation, out-Negation}
use Rattle.sql_tree.specs.declared.expr.Predicate.{Predicate, out-Predicate}
use Rattle.sql_tree.specs.declared.expr.Query.{Query, out-Query}
use Rattle.sql_tree.specs.declared.expr.Select.{Select, out-Select}
use Rattle.sql_tree.specs.declared.expr.Sum.{Sum, out-Sum}
use Rattle.sql_tree.specs.declared.expr.Term.{Term, out-Term}

pub grouping_Join_Inner : (t : TableReference) (on : Expr) → join (joins.Inner t on) ≡ (expr on)
unfolding join operand select_item select_list tail added arm chain conjunction expr factor further multiplied negation predicate query select sum term
grouping_Join_Inner t on = search (rules, the_lemmas)

pub grouping_Join_Cross : (t : TableReference) → join (joins.Cross t) ≡ nothing
unfolding join operand select_item select_list tail added arm chain conjunction expr factor further multiplied negation predicate query select sum term
grouping_Join_Cross t = search (rules, the_lemmas)

pub grouping_Operand_Literal : (text : NameBytes) → operand (operands.Literal text) ≡ nothing
unfolding join operand select_item select_list tail added arm chain conjunction expr factor further multiplied negation predicate query select sum term
grouping_Operand_Literal text = search (rules, the_lemmas)

pub grouping_Operand_Number : (text : NameBytes) → operand (operands.Number text) ≡ nothing
unfolding join operand select_item select_list tail added arm chain conjunction expr factor further multiplied negation predicate query select sum term
grouping_Operand_Number text = search (rules, the_lemmas)

pub grouping_Operand_True : operand operands.True ≡ nothing
unfolding join operand select_item select_list tail added arm chain conjunction expr factor further multiplied negation predicate query select sum term
grouping_Operand_True = search (rules, the_lemmas)

pub grouping_Operand_False : operand operands.False ≡ nothing
unfolding join operand select_item select_list tail added arm chain conjunction expr factor further multiplied negation predicate query select sum term
grouping_Operand_False = search (rules, the_lemmas)

pub grouping_Operand_Special : (special : Special) → operand (operands.Special special) ≡ nothing
unfolding join operand select_item select_list tail added arm chain conjunction expr factor further multiplied negation predicate query select sum term
grouping_Operand_Special special = search (rules, the_lemmas)

pub grouping_Operand_Value : operand operands.Value ≡ nothing
unfolding join operand select_item select_list tail added arm chain conjunction expr factor further multiplied negation predicate query select sum term
grouping_Operand_Value = search (rules, the_lemmas)

pub grouping_Operand_Reference : (r : Reference) → operand (operands.Reference r) ≡ referred r
unfolding join operand select_item select_list tail added arm chain conjunction expr factor further multiplied negation predicate query select sum term
grouping_Operand_Reference r = search (rules, the_lemmas)

pub grouping_Operand_Call : (f : ObjectName) (es : List Expr) → operand (operands.Call f es) ≡ join_all nothing (map expr es)
unfolding join operand select_item select_list tail added arm chain conjunction expr factor further multiplied negation predicate query select sum term
grouping_Operand_Call f es = search (rules, the_lemmas)

pub grouping_Operand_CountAll : operand operands.CountAll ≡ aggregated nothing
unfolding join operand select_item select_list tail added arm chain conjunction expr factor further multiplied negation predicate query select sum term
grouping_Operand_CountAll = search (rules, the_lemmas)

pub grouping_Operand_Aggregate : (by : Aggregate) (e : Expr) → operand (operands.Aggregate by e) ≡ aggregated (expr e)
unfolding join operand select_item select_list tail added arm chain conjunction expr factor further multiplied negation predicate query select sum term
grouping_Operand_Aggregate by e = search (rules, the_lemmas)

pub grouping_Operand_Case : (arms : List Arm) (e : Option Expr) → operand (operands.Case arms e) ≡ both (join_all nothing (map arm arms)) (perhaps (option_map expr e))
unfolding join operand select_item select_list tail added arm chain conjunction expr factor further multiplied negation predicate query select sum term
grouping_Operand_Case arms e = search (rules, the_lemmas)

pub grouping_Operand_Cast : (e : Option Expr) (sort : SqlType) → operand (operands.Cast e sort) ≡ perhaps (option_map expr e)
unfolding join operand select_item select_list tail added arm chain conjunction expr factor further multiplied negation predicate query select sum term
grouping_Operand_Cast e sort = search (rules, the_lemmas)

pub grouping_Operand_Exists : (q : Query) → operand (operands.Exists q) ≡ (query q)
unfolding join operand select_item select_list tail added arm chain conjunction expr factor further multiplied negation predicate query select sum term
grouping_Operand_Exists q = search (rules, the_lemmas)

pub grouping_Operand_Subquery : (q : Query) → operand (operands.Subquery q) ≡ (query q)
unfolding join operand select_item select_list tail added arm chain conjunction expr factor further multiplied negation predicate query select sum term
grouping_Operand_Subquery q = search (rules, the_lemmas)

pub grouping_Operand_Parenthesized : (e : Expr) → operand (operands.Parenthesized e) ≡ (expr e)
unfolding join operand select_item select_list tail added arm chain conjunction expr factor further multiplied negation predicate query select sum term
grouping_Operand_Parenthesized e = search (rules, the_lemmas)

pub grouping_SelectItem_Expr : (e : Expr) (name : Option NameBytes) → select_item (items.Expr e name) ≡ (expr e)
unfolding join operand select_item select_list tail added arm chain conjunction expr factor further multiplied negation predicate query select sum term
grouping_SelectItem_Expr e name = search (rules, the_lemmas)

pub grouping_SelectItem_QualifiedStar : (name : NameBytes) → select_item (items.QualifiedStar name) ≡ nothing
unfolding join operand select_item select_list tail added arm chain conjunction expr factor further multiplied negation predicate query select sum term
grouping_SelectItem_QualifiedStar name = search (rules, the_lemmas)

pub grouping_SelectList_Star : select_list lists.Star ≡ nothing
unfolding join operand select_item select_list tail added arm chain conjunction expr factor further multiplied negation predicate query select sum term
grouping_SelectList_Star = search (rules, the_lemmas)

pub grouping_SelectList_Listed : (is : List SelectItem) → select_list (lists.Listed is) ≡ join_all nothing (map select_item is)
unfolding join operand select_item select_list tail added arm chain conjunction expr factor further multiplied negation predicate query select sum term
grouping_SelectList_Listed is = search (rules, the_lemmas)

pub grouping_Tail_Compare : (by : Comparison) (x : Sum) → tail (tails.Compare by x) ≡ (sum x)
unfolding join operand select_item select_list tail added arm chain conjunction expr factor further multiplied negation predicate query select sum term
grouping_Tail_Compare by x = search (rules, the_lemmas)

pub grouping_Tail_IsNull : (negated : Bool) → tail (tails.IsNull negated) ≡ nothing
unfolding join operand select_item select_list tail added arm chain conjunction expr factor further multiplied negation predicate query select sum term
grouping_Tail_IsNull negated = search (rules, the_lemmas)

pub grouping_Tail_Between : (negated : Bool) (x : Sum) (y : Sum) → tail (tails.Between negated x y) ≡ both (sum x) (sum y)
unfolding join operand select_item select_list tail added arm chain conjunction expr factor further multiplied negation predicate query select sum term
grouping_Tail_Between negated x y = search (rules, the_lemmas)

pub grouping_Tail_InQuery : (negated : Bool) (q : Query) → tail (tails.InQuery negated q) ≡ (query q)
unfolding join operand select_item select_list tail added arm chain conjunction expr factor further multiplied negation predicate query select sum term
grouping_Tail_InQuery negated q = search (rules, the_lemmas)

pub grouping_Tail_InList : (negated : Bool) (es : List Expr) → tail (tails.InList negated es) ≡ join_all nothing (map expr es)
unfolding join operand select_item select_list tail added arm chain conjunction expr factor further multiplied negation predicate query select sum term
grouping_Tail_InList negated es = search (rules, the_lemmas)

pub grouping_Tail_Like : (negated : Bool) (x : Sum) → tail (tails.Like negated x) ≡ (sum x)
unfolding join operand select_item select_list tail added arm chain conjunction expr factor further multiplied negation predicate query select sum term
grouping_Tail_Like negated x = search (rules, the_lemmas)

pub grouping_Added : (x : Added) → added x ≡ (term (out-Added x).term)
unfolding join operand select_item select_list tail added arm chain conjunction expr factor further multiplied negation predicate query select sum term
grouping_Added x = search (rules, the_lemmas)

pub grouping_Arm : (x : Arm) → arm x ≡ both (expr (out-Arm x).condition) (expr (out-Arm x).value)
unfolding join operand select_item select_list tail added arm chain conjunction expr factor further multiplied negation predicate query select sum term
grouping_Arm x = search (rules, the_lemmas)

pub grouping_Chain : (x : Chain) → chain x ≡ join_all nothing (map join (out-Chain x).joins)
unfolding join operand select_item select_list tail added arm chain conjunction expr factor further multiplied negation predicate query select sum term
grouping_Chain x = search (rules, the_lemmas)

pub grouping_Conjunction : (x : Conjunction) → conjunction x ≡ join_all nothing (map negation (out-Conjunction x).every)
unfolding join operand select_item select_list tail added arm chain conjunction expr factor further multiplied negation predicate query select sum term
grouping_Conjunction x = search (rules, the_lemmas)

pub grouping_Expr : (x : Expr) → expr x ≡ join_all nothing (map conjunction (out-Expr x).any)
unfolding join operand select_item select_list tail added arm chain conjunction expr factor further multiplied negation predicate query select sum term
grouping_Expr x = search (rules, the_lemmas)

pub grouping_Factor : (x : Factor) → factor x ≡ (operand (out-Factor x).operand)
unfolding join operand select_item select_list tail added arm chain conjunction expr factor further multiplied negation predicate query select sum term
grouping_Factor x = search (rules, the_lemmas)

pub grouping_Further : (x : Further) → further x ≡ (select (out-Further x).select)
unfolding join operand select_item select_list tail added arm chain conjunction expr factor further multiplied negation predicate query select sum term
grouping_Further x = search (rules, the_lemmas)

pub grouping_Multiplied : (x : Multiplied) → multiplied x ≡ (factor (out-Multiplied x).factor)
unfolding join operand select_item select_list tail added arm chain conjunction expr factor further multiplied negation predicate query select sum term
grouping_Multiplied x = search (rules, the_lemmas)

pub grouping_Negation : (x : Negation) → negation x ≡ (predicate (out-Negation x).predicate)
unfolding join operand select_item select_list tail added arm chain conjunction expr factor further multiplied negation predicate query select sum term
grouping_Negation x = search (rules, the_lemmas)

pub grouping_Predicate : (x : Predicate) → predicate x ≡ both (sum (out-Predicate x).tested) (perhaps (option_map tail (out-Predicate x).tail))
unfolding join operand select_item select_list tail added arm chain conjunction expr factor further multiplied negation predicate query select sum term
grouping_Predicate x = search (rules, the_lemmas)

pub grouping_Query : (x : Query) → query x ≡ both (select (out-Query x).first) (join_all nothing (map further (out-Query x).others))
unfolding join operand select_item select_list tail added arm chain conjunction expr factor further multiplied negation predicate query select sum term
grouping_Query x = search (rules, the_lemmas)

pub grouping_Select : (x : Select) → select x ≡ settled (join_all nothing (map chain (out-Select x).from)) (select_list (out-Select x).list) (perhaps (option_map expr (out-Select x).filter)) (out-Select x).group_by
unfolding join operand select_item select_list tail added arm chain conjunction expr factor further multiplied negation predicate query select sum term
grouping_Select x = search (rules, the_lemmas)

pub grouping_Sum : (x : Sum) → sum x ≡ both (term (out-Sum x).first) (join_all nothing (map added (out-Sum x).others))
unfolding join operand select_item select_list tail added arm chain conjunction expr factor further multiplied negation predicate query select sum term
grouping_Sum x = search (rules, the_lemmas)

pub grouping_Term : (x : Term) → term x ≡ both (factor (out-Term x).first) (join_all nothing (map multiplied (out-Term x).others))
unfolding join operand select_item select_list tail added arm chain conjunction expr factor further multiplied negation predicate query select sum term
grouping_Term x = search (rules, the_lemmas)

pub ruleset grouping = (grouping_Join_Inner, grouping_Join_Cross, grouping_Operand_Literal, grouping_Operand_Number, grouping_Operand_True, grouping_Operand_False, grouping_Operand_Special, grouping_Operand_Value, grouping_Operand_Reference, grouping_Operand_Call, grouping_Operand_CountAll, grouping_Operand_Aggregate, grouping_Operand_Case, grouping_Operand_Cast, grouping_Operand_Exists, grouping_Operand_Subquery, grouping_Operand_Parenthesized, grouping_SelectItem_Expr, grouping_SelectItem_QualifiedStar, grouping_SelectList_Star, grouping_SelectList_Listed, grouping_Tail_Compare, grouping_Tail_IsNull, grouping_Tail_Between, grouping_Tail_InQuery, grouping_Tail_InList, grouping_Tail_Like, grouping_Added, grouping_Arm, grouping_Chain, grouping_Conjunction, grouping_Expr, grouping_Factor, grouping_Further, grouping_Multiplied, grouping_Negation, grouping_Predicate, grouping_Query, grouping_Select, grouping_Sum, grouping_Term)
