-- One equation for each alternative of a tree.
use Rattle.sql_tree.specs.declared.expr.Comparison.{Comparison}
use Rattle.sql_tree.specs.declared.expr.Aggregate.{Aggregate}
use Rattle.sql_names.specs.declared.sort.SqlType.{SqlType}
use Rattle.sql_names.specs.declared.sort.Special.{Special}
use Rattle.sql_names.specs.declared.column.Reference.{Reference}
use Rattle.sql_names.specs.declared.column.ObjectName.{ObjectName}
use Rattle.sql_names.specs.declared.column.TableReference.{TableReference}
use Rattle.std.proofs.Common.{◌≡◌, Bool, List, [], ◌∷◌, Option, Some, None, map, rules}
use Rattle.std.specs.Prelude.{option_map, option_and_then}
use Rattle.sql_names.specs.declared.sort.SqlType.TheVariants.{Boolean, Bigint}
use Rattle.name_scopes.specs.declared.scope.Scope.{Scope}
use Rattle.sql_names.specs.NameBytes.{NameBytes}
use Rattle.name_scopes.specs.Known.{Known}
use Rattle.name_scopes.specs.Frames.{Frames}
use Rattle.type_rules.specs.Rules.{negative, number_type, literal_type, special_type, aggregate}
use Rattle.type_rules.specs.TypeParts.{each, holds, all_hold, tables, tab_of, frame, reference, routine, called, case_type, cast_type, there, single, compared, tested, between, listed, like, guarded, logical, unless_negated, with_tail, united, sum_of, product_of, selected_where}
use Rattle.query_types.specs.Types.{join, operand, select_item, select_list, tail, added, arm, chain, conjunction, expr, factor, further, multiplied, negation, predicate, query, select, sum, term}
use Rattle.sql_tree.specs.declared.expr.Join.TheVariants as joins
use Rattle.sql_tree.specs.declared.expr.Operand.TheVariants as operands
use Rattle.sql_tree.specs.declared.expr.SelectItem.{SelectItem}
use Rattle.sql_tree.specs.declared.expr.SelectItem.TheVariants as items
use Rattle.sql_tree.specs.declared.expr.SelectList.TheVariants as lists
use Rattle.sql_tree.specs.declared.expr.Tail.TheVariants as tails
use Rattle.sql_tree.specs.declared.expr.Added.{Added, out-Added}
use Rattle.sql_tree.specs.declared.expr.Arm.{Arm, out-Arm}
use Rattle.sql_tree.specs.declared.expr.Chain.{Chain, out-Chain}
use Rattle.sql_tree.specs.declared.expr.Conjunction.{Conjunction, out-Conjunction}
use Rattle.sql_tree.specs.declared.expr.Expr.{Expr, out-Expr, the_lemmas}
use Rattle.sql_tree.specs.declared.expr.Factor.{Factor, out-Factor}
use Rattle.sql_tree.specs.declared.expr.Further.{Further, out-Further}
use Rattle.sql_tree.specs.declared.expr.Multiplied.{Multiplied, out-Multiplied}
use Rattle.sql_tree.specs.declared.expr.Negation.{Negation, out-Negation}
use Rattle.sql_tree.specs.declared.expr.Predicate.{Predicate, out-Predicate}
use Rattle.sql_tree.specs.declared.expr.Query.{Query, out-Query}
use Rattle.sql_tree.specs.declared.expr.Select.{Select, out-Select}
use Rattle.sql_tree.specs.declared.expr.Sum.{Sum, out-Sum}
use Rattle.sql_tree.specs.declared.expr.Term.{Term, out-Term}

pub typing_Join_Inner : (k : Known) (scope : Scope) (t : TableReference) (on : Expr) → join k scope (joins.Inner t on) ≡ (tab_of k scope t ∷ [], holds (Some (expr k scope on)))
unfolding join operand select_item select_list tail added arm chain conjunction expr factor further multiplied negation predicate query select sum term
typing_Join_Inner k scope t on = search (rules, the_lemmas)

pub typing_Join_Cross : (k : Known) (scope : Scope) (t : TableReference) → join k scope (joins.Cross t) ≡ (tab_of k scope t ∷ [], holds None)
unfolding join operand select_item select_list tail added arm chain conjunction expr factor further multiplied negation predicate query select sum term
typing_Join_Cross k scope t = search (rules, the_lemmas)

pub typing_Operand_Literal : (k : Known) (scope : Scope) (text : NameBytes) (s : Frames) → operand k scope (operands.Literal text) s ≡ Some (literal_type text)
unfolding join operand select_item select_list tail added arm chain conjunction expr factor further multiplied negation predicate query select sum term
typing_Operand_Literal k scope text s = search (rules, the_lemmas)

pub typing_Operand_Number : (k : Known) (scope : Scope) (text : NameBytes) (s : Frames) → operand k scope (operands.Number text) s ≡ Some (number_type text)
unfolding join operand select_item select_list tail added arm chain conjunction expr factor further multiplied negation predicate query select sum term
typing_Operand_Number k scope text s = search (rules, the_lemmas)

pub typing_Operand_True : (k : Known) (scope : Scope) (s : Frames) → operand k scope operands.True s ≡ Some Boolean
unfolding join operand select_item select_list tail added arm chain conjunction expr factor further multiplied negation predicate query select sum term
typing_Operand_True k scope s = search (rules, the_lemmas)

pub typing_Operand_False : (k : Known) (scope : Scope) (s : Frames) → operand k scope operands.False s ≡ Some Boolean
unfolding join operand select_item select_list tail added arm chain conjunction expr factor further multiplied negation predicate query select sum term
typing_Operand_False k scope s = search (rules, the_lemmas)

pub typing_Operand_Special : (k : Known) (scope : Scope) (special : Special) (s : Frames) → operand k scope (operands.Special special) s ≡ Some (special_type special)
unfolding join operand select_item select_list tail added arm chain conjunction expr factor further multiplied negation predicate query select sum term
typing_Operand_Special k scope special s = search (rules, the_lemmas)

pub typing_Operand_Value : (k : Known) (scope : Scope) (s : Frames) → operand k scope operands.Value s ≡ scope.value
unfolding join operand select_item select_list tail added arm chain conjunction expr factor further multiplied negation predicate query select sum term
typing_Operand_Value k scope s = search (rules, the_lemmas)

pub typing_Operand_Reference : (k : Known) (scope : Scope) (r : Reference) (s : Frames) → operand k scope (operands.Reference r) s ≡ reference k scope r s
unfolding join operand select_item select_list tail added arm chain conjunction expr factor further multiplied negation predicate query select sum term
typing_Operand_Reference k scope r s = search (rules, the_lemmas)

pub typing_Operand_Call : (k : Known) (scope : Scope) (f : ObjectName) (es : List Expr) (s : Frames) → operand k scope (operands.Call f es) s ≡ called (routine k scope f) (each s [] (map (expr k scope) es))
unfolding join operand select_item select_list tail added arm chain conjunction expr factor further multiplied negation predicate query select sum term
typing_Operand_Call k scope f es s = search (rules, the_lemmas)

pub typing_Operand_CountAll : (k : Known) (scope : Scope) (s : Frames) → operand k scope operands.CountAll s ≡ Some Bigint
unfolding join operand select_item select_list tail added arm chain conjunction expr factor further multiplied negation predicate query select sum term
typing_Operand_CountAll k scope s = search (rules, the_lemmas)

pub typing_Operand_Aggregate : (k : Known) (scope : Scope) (by : Aggregate) (e : Expr) (s : Frames) → operand k scope (operands.Aggregate by e) s ≡ option_and_then (aggregate by) ((expr k scope e) s)
unfolding join operand select_item select_list tail added arm chain conjunction expr factor further multiplied negation predicate query select sum term
typing_Operand_Aggregate k scope by e s = search (rules, the_lemmas)

pub typing_Operand_Case : (k : Known) (scope : Scope) (arms : List Arm) (e : Option Expr) (s : Frames) → operand k scope (operands.Case arms e) s ≡ case_type (each s [] (map (arm k scope) arms)) (option_map (expr k scope) e) s
unfolding join operand select_item select_list tail added arm chain conjunction expr factor further multiplied negation predicate query select sum term
typing_Operand_Case k scope arms e s = search (rules, the_lemmas)

pub typing_Operand_Cast : (k : Known) (scope : Scope) (e : Option Expr) (sort : SqlType) (s : Frames) → operand k scope (operands.Cast e sort) s ≡ cast_type (option_map (expr k scope) e) sort s
unfolding join operand select_item select_list tail added arm chain conjunction expr factor further multiplied negation predicate query select sum term
typing_Operand_Cast k scope e sort s = search (rules, the_lemmas)

pub typing_Operand_Exists : (k : Known) (scope : Scope) (q : Query) (s : Frames) → operand k scope (operands.Exists q) s ≡ there ((query k scope q) s)
unfolding join operand select_item select_list tail added arm chain conjunction expr factor further multiplied negation predicate query select sum term
typing_Operand_Exists k scope q s = search (rules, the_lemmas)

pub typing_Operand_Subquery : (k : Known) (scope : Scope) (q : Query) (s : Frames) → operand k scope (operands.Subquery q) s ≡ single ((query k scope q) s)
unfolding join operand select_item select_list tail added arm chain conjunction expr factor further multiplied negation predicate query select sum term
typing_Operand_Subquery k scope q s = search (rules, the_lemmas)

pub typing_Operand_Parenthesized : (k : Known) (scope : Scope) (e : Expr) (s : Frames) → operand k scope (operands.Parenthesized e) s ≡ (expr k scope e) s
unfolding join operand select_item select_list tail added arm chain conjunction expr factor further multiplied negation predicate query select sum term
typing_Operand_Parenthesized k scope e s = search (rules, the_lemmas)

pub typing_SelectItem_Expr : (k : Known) (scope : Scope) (e : Expr) (name : Option NameBytes) (s : Frames) → select_item k scope (items.Expr e name) s ≡ (expr k scope e) s
unfolding join operand select_item select_list tail added arm chain conjunction expr factor further multiplied negation predicate query select sum term
typing_SelectItem_Expr k scope e name s = search (rules, the_lemmas)

pub typing_SelectItem_QualifiedStar : (k : Known) (scope : Scope) (name : NameBytes) (s : Frames) → select_item k scope (items.QualifiedStar name) s ≡ None
unfolding join operand select_item select_list tail added arm chain conjunction expr factor further multiplied negation predicate query select sum term
typing_SelectItem_QualifiedStar k scope name s = search (rules, the_lemmas)

pub typing_SelectList_Star : (k : Known) (scope : Scope) (s : Frames) → select_list k scope lists.Star s ≡ None
unfolding join operand select_item select_list tail added arm chain conjunction expr factor further multiplied negation predicate query select sum term
typing_SelectList_Star k scope s = search (rules, the_lemmas)

pub typing_SelectList_Listed : (k : Known) (scope : Scope) (is : List SelectItem) (s : Frames) → select_list k scope (lists.Listed is) s ≡ each s [] (map (select_item k scope) is)
unfolding join operand select_item select_list tail added arm chain conjunction expr factor further multiplied negation predicate query select sum term
typing_SelectList_Listed k scope is s = search (rules, the_lemmas)

pub typing_Tail_Compare : (k : Known) (scope : Scope) (by : Comparison) (x : Sum) (s : Frames) (left : Option SqlType) → tail k scope (tails.Compare by x) s left ≡ compared left ((sum k scope x) s)
unfolding join operand select_item select_list tail added arm chain conjunction expr factor further multiplied negation predicate query select sum term
typing_Tail_Compare k scope by x s left = search (rules, the_lemmas)

pub typing_Tail_IsNull : (k : Known) (scope : Scope) (negated : Bool) (s : Frames) (left : Option SqlType) → tail k scope (tails.IsNull negated) s left ≡ tested left
unfolding join operand select_item select_list tail added arm chain conjunction expr factor further multiplied negation predicate query select sum term
typing_Tail_IsNull k scope negated s left = search (rules, the_lemmas)

pub typing_Tail_Between : (k : Known) (scope : Scope) (negated : Bool) (x : Sum) (y : Sum) (s : Frames) (left : Option SqlType) → tail k scope (tails.Between negated x y) s left ≡ between left ((sum k scope x) s) ((sum k scope y) s)
unfolding join operand select_item select_list tail added arm chain conjunction expr factor further multiplied negation predicate query select sum term
typing_Tail_Between k scope negated x y s left = search (rules, the_lemmas)

pub typing_Tail_InQuery : (k : Known) (scope : Scope) (negated : Bool) (q : Query) (s : Frames) (left : Option SqlType) → tail k scope (tails.InQuery negated q) s left ≡ compared left (single ((query k scope q) s))
unfolding join operand select_item select_list tail added arm chain conjunction expr factor further multiplied negation predicate query select sum term
typing_Tail_InQuery k scope negated q s left = search (rules, the_lemmas)

pub typing_Tail_InList : (k : Known) (scope : Scope) (negated : Bool) (es : List Expr) (s : Frames) (left : Option SqlType) → tail k scope (tails.InList negated es) s left ≡ listed left (each s [] (map (expr k scope) es))
unfolding join operand select_item select_list tail added arm chain conjunction expr factor further multiplied negation predicate query select sum term
typing_Tail_InList k scope negated es s left = search (rules, the_lemmas)

pub typing_Tail_Like : (k : Known) (scope : Scope) (negated : Bool) (x : Sum) (s : Frames) (left : Option SqlType) → tail k scope (tails.Like negated x) s left ≡ like left ((sum k scope x) s)
unfolding join operand select_item select_list tail added arm chain conjunction expr factor further multiplied negation predicate query select sum term
typing_Tail_Like k scope negated x s left = search (rules, the_lemmas)

pub typing_Added : (k : Known) (scope : Scope) (x : Added) → added k scope x ≡ ((out-Added x).by, (term k scope (out-Added x).term))
unfolding join operand select_item select_list tail added arm chain conjunction expr factor further multiplied negation predicate query select sum term
typing_Added k scope x = search (rules, the_lemmas)

pub typing_Arm : (k : Known) (scope : Scope) (x : Arm) (s : Frames) → arm k scope x s ≡ guarded ((expr k scope (out-Arm x).condition) s) ((expr k scope (out-Arm x).value) s)
unfolding join operand select_item select_list tail added arm chain conjunction expr factor further multiplied negation predicate query select sum term
typing_Arm k scope x s = search (rules, the_lemmas)

pub typing_Chain : (k : Known) (scope : Scope) (x : Chain) → chain k scope x ≡ (tab_of k scope (out-Chain x).first ∷ tables (map (join k scope) (out-Chain x).joins), all_hold (map (join k scope) (out-Chain x).joins))
unfolding join operand select_item select_list tail added arm chain conjunction expr factor further multiplied negation predicate query select sum term
typing_Chain k scope x = search (rules, the_lemmas)

pub typing_Conjunction : (k : Known) (scope : Scope) (x : Conjunction) (s : Frames) → conjunction k scope x s ≡ logical (each s [] (map (negation k scope) (out-Conjunction x).every))
unfolding join operand select_item select_list tail added arm chain conjunction expr factor further multiplied negation predicate query select sum term
typing_Conjunction k scope x s = search (rules, the_lemmas)

pub typing_Expr : (k : Known) (scope : Scope) (x : Expr) (s : Frames) → expr k scope x s ≡ logical (each s [] (map (conjunction k scope) (out-Expr x).any))
unfolding join operand select_item select_list tail added arm chain conjunction expr factor further multiplied negation predicate query select sum term
typing_Expr k scope x s = search (rules, the_lemmas)

pub typing_Factor : (k : Known) (scope : Scope) (x : Factor) (s : Frames) → factor k scope x s ≡ option_and_then (negative (out-Factor x).minus) ((operand k scope (out-Factor x).operand) s)
unfolding join operand select_item select_list tail added arm chain conjunction expr factor further multiplied negation predicate query select sum term
typing_Factor k scope x s = search (rules, the_lemmas)

pub typing_Further : (k : Known) (scope : Scope) (x : Further) (s : Frames) → further k scope x s ≡ (select k scope (out-Further x).select) s
unfolding join operand select_item select_list tail added arm chain conjunction expr factor further multiplied negation predicate query select sum term
typing_Further k scope x s = search (rules, the_lemmas)

pub typing_Multiplied : (k : Known) (scope : Scope) (x : Multiplied) (s : Frames) → multiplied k scope x s ≡ (factor k scope (out-Multiplied x).factor) s
unfolding join operand select_item select_list tail added arm chain conjunction expr factor further multiplied negation predicate query select sum term
typing_Multiplied k scope x s = search (rules, the_lemmas)

pub typing_Negation : (k : Known) (scope : Scope) (x : Negation) (s : Frames) → negation k scope x s ≡ unless_negated (out-Negation x).negated ((predicate k scope (out-Negation x).predicate) s)
unfolding join operand select_item select_list tail added arm chain conjunction expr factor further multiplied negation predicate query select sum term
typing_Negation k scope x s = search (rules, the_lemmas)

pub typing_Predicate : (k : Known) (scope : Scope) (x : Predicate) (s : Frames) → predicate k scope x s ≡ with_tail (option_map (tail k scope) (out-Predicate x).tail) s ((sum k scope (out-Predicate x).tested) s)
unfolding join operand select_item select_list tail added arm chain conjunction expr factor further multiplied negation predicate query select sum term
typing_Predicate k scope x s = search (rules, the_lemmas)

pub typing_Query : (k : Known) (scope : Scope) (x : Query) (s : Frames) → query k scope x s ≡ option_and_then (united s (map (further k scope) (out-Query x).others)) ((select k scope (out-Query x).first) s)
unfolding join operand select_item select_list tail added arm chain conjunction expr factor further multiplied negation predicate query select sum term
typing_Query k scope x s = search (rules, the_lemmas)

pub typing_Select : (k : Known) (scope : Scope) (x : Select) (s : Frames) → select k scope x s ≡ selected_where (all_hold (map (chain k scope) (out-Select x).from) (frame (tables (map (chain k scope) (out-Select x).from)) ∷ s)) (holds (option_map (expr k scope) (out-Select x).filter) (frame (tables (map (chain k scope) (out-Select x).from)) ∷ s)) ((select_list k scope (out-Select x).list) (frame (tables (map (chain k scope) (out-Select x).from)) ∷ s))
unfolding join operand select_item select_list tail added arm chain conjunction expr factor further multiplied negation predicate query select sum term
typing_Select k scope x s = search (rules, the_lemmas)

pub typing_Sum : (k : Known) (scope : Scope) (x : Sum) (s : Frames) → sum k scope x s ≡ sum_of s ((term k scope (out-Sum x).first) s) (map (added k scope) (out-Sum x).others)
unfolding join operand select_item select_list tail added arm chain conjunction expr factor further multiplied negation predicate query select sum term
typing_Sum k scope x s = search (rules, the_lemmas)

pub typing_Term : (k : Known) (scope : Scope) (x : Term) (s : Frames) → term k scope x s ≡ product_of s ((factor k scope (out-Term x).first) s) (map (multiplied k scope) (out-Term x).others)
unfolding join operand select_item select_list tail added arm chain conjunction expr factor further multiplied negation predicate query select sum term
typing_Term k scope x s = search (rules, the_lemmas)

pub ruleset typing = (typing_Join_Inner, typing_Join_Cross, typing_Operand_Literal, typing_Operand_Number, typing_Operand_True, typing_Operand_False, typing_Operand_Special, typing_Operand_Value, typing_Operand_Reference, typing_Operand_Call, typing_Operand_CountAll, typing_Operand_Aggregate, typing_Operand_Case, typing_Operand_Cast, typing_Operand_Exists, typing_Operand_Subquery, typing_Operand_Parenthesized, typing_SelectItem_Expr, typing_SelectItem_QualifiedStar, typing_SelectList_Star, typing_SelectList_Listed, typing_Tail_Compare, typing_Tail_IsNull, typing_Tail_Between, typing_Tail_InQuery, typing_Tail_InList, typing_Tail_Like, typing_Added, typing_Arm, typing_Chain, typing_Conjunction, typing_Expr, typing_Factor, typing_Further, typing_Multiplied, typing_Negation, typing_Predicate, typing_Query, typing_Select, typing_Sum, typing_Term)
