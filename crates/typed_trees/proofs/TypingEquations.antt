-- Types of a tree that is seen layer by layer, one equation for each alternative.
use Rattle.std.proofs.Common.{◌≡◌, Bool, List, [], ◌∷◌, Option, Some, None, map, rules}
use Rattle.std.specs.Prelude.{option_map, option_and_then}
use Rattle.sql_names.specs.NameBytes.{NameBytes}
use Rattle.sql_names.specs.declared.sort.SqlType.{SqlType}
use Rattle.sql_names.specs.declared.sort.SqlType.TheVariants.{Boolean, Bigint}
use Rattle.sql_names.specs.declared.sort.Special.{Special}
use Rattle.sql_names.specs.declared.column.Reference.{Reference}
use Rattle.sql_names.specs.declared.column.ObjectName.{ObjectName}
use Rattle.sql_tree.specs.declared.expr.Additive.{Additive}
use Rattle.sql_tree.specs.declared.expr.Aggregate.{Aggregate}
use Rattle.sql_tree.specs.declared.expr.Comparison.{Comparison}
use Rattle.sql_tree.specs.declared.expr.Multiplicative.{Multiplicative}
use Rattle.sql_tree.specs.declared.expr.SetOperator.{SetOperator}
use Rattle.sql_tree.specs.declared.expr.Operand.{Operand, roll-Operand}
use Rattle.sql_tree.specs.declared.expr.SelectItem.{SelectItem, roll-SelectItem}
use Rattle.sql_tree.specs.declared.expr.SelectList.{SelectList, roll-SelectList}
use Rattle.sql_tree.specs.declared.expr.Tail.{Tail, roll-Tail}
use Rattle.sql_tree.specs.declared.expr.Added.{Added, roll-Added}
use Rattle.sql_tree.specs.declared.expr.Arm.{Arm, roll-Arm}
use Rattle.sql_tree.specs.declared.expr.Conjunction.{Conjunction, roll-Conjunction}
use Rattle.sql_tree.specs.declared.expr.Expr.{Expr, roll-Expr, the_lemmas}
use Rattle.sql_tree.specs.declared.expr.Factor.{Factor, roll-Factor}
use Rattle.sql_tree.specs.declared.expr.Further.{Further, roll-Further}
use Rattle.sql_tree.specs.declared.expr.Multiplied.{Multiplied, roll-Multiplied}
use Rattle.sql_tree.specs.declared.expr.Negation.{Negation, roll-Negation}
use Rattle.sql_tree.specs.declared.expr.Predicate.{Predicate, roll-Predicate}
use Rattle.sql_tree.specs.declared.expr.Query.{Query, roll-Query}
use Rattle.sql_tree.specs.declared.expr.Select.{Select, roll-Select}
use Rattle.sql_tree.specs.declared.expr.Sum.{Sum, roll-Sum}
use Rattle.sql_tree.specs.declared.expr.Term.{Term, roll-Term}
use Rattle.sql_tree.specs.declared.expr.Chain.{Chain}
use Rattle.sql_tree.specs.declared.expr.Join.TheOpen.{Operand-F, SelectItem-F, SelectList-F, Tail-F}
use Rattle.name_scopes.specs.declared.scope.Scope.{Scope}
use Rattle.name_scopes.specs.Known.{Known}
use Rattle.name_scopes.specs.Frames.{Frames}
use Rattle.type_rules.specs.Rules.{negative, number_type, literal_type, special_type, aggregate}
use Rattle.type_rules.specs.TypeParts.{each, holds, all_hold, tables, frame, reference, routine, called, case_type, cast_type, there, single, compared, tested, between, listed, like, guarded, logical, unless_negated, with_tail, united, sum_of, product_of, selected_where}
use Rattle.query_types.specs.Types.{join, operand, select_item, select_list, tail, added, arm, chain, conjunction, expr, factor, further, multiplied, negation, predicate, query, select, sum, term}

pub typing_Operand_Literal : (k : Known) (scope : Scope) (text : NameBytes) (s : Frames) → operand k scope (roll-Operand (Operand-F.Literal text)) s ≡ Some (literal_type text)
unfolding join operand select_item select_list tail added arm chain conjunction expr factor further multiplied negation predicate query select sum term
typing_Operand_Literal k scope text s = search (rules, the_lemmas)

pub typing_Operand_Number : (k : Known) (scope : Scope) (text : NameBytes) (s : Frames) → operand k scope (roll-Operand (Operand-F.Number text)) s ≡ Some (number_type text)
unfolding join operand select_item select_list tail added arm chain conjunction expr factor further multiplied negation predicate query select sum term
typing_Operand_Number k scope text s = search (rules, the_lemmas)

pub typing_Operand_True : (k : Known) (scope : Scope) (s : Frames) → operand k scope (roll-Operand Operand-F.True) s ≡ Some Boolean
unfolding join operand select_item select_list tail added arm chain conjunction expr factor further multiplied negation predicate query select sum term
typing_Operand_True k scope s = search (rules, the_lemmas)

pub typing_Operand_False : (k : Known) (scope : Scope) (s : Frames) → operand k scope (roll-Operand Operand-F.False) s ≡ Some Boolean
unfolding join operand select_item select_list tail added arm chain conjunction expr factor further multiplied negation predicate query select sum term
typing_Operand_False k scope s = search (rules, the_lemmas)

pub typing_Operand_Special : (k : Known) (scope : Scope) (special : Special) (s : Frames) → operand k scope (roll-Operand (Operand-F.Special special)) s ≡ Some (special_type special)
unfolding join operand select_item select_list tail added arm chain conjunction expr factor further multiplied negation predicate query select sum term
typing_Operand_Special k scope special s = search (rules, the_lemmas)

pub typing_Operand_Value : (k : Known) (scope : Scope) (s : Frames) → operand k scope (roll-Operand Operand-F.Value) s ≡ scope.value
unfolding join operand select_item select_list tail added arm chain conjunction expr factor further multiplied negation predicate query select sum term
typing_Operand_Value k scope s = search (rules, the_lemmas)

pub typing_Operand_Reference : (k : Known) (scope : Scope) (r : Reference) (s : Frames) → operand k scope (roll-Operand (Operand-F.Reference r)) s ≡ reference k scope r s
unfolding join operand select_item select_list tail added arm chain conjunction expr factor further multiplied negation predicate query select sum term
typing_Operand_Reference k scope r s = search (rules, the_lemmas)

pub typing_Operand_Call : (k : Known) (scope : Scope) (f : ObjectName) (es : List Expr) (s : Frames) → operand k scope (roll-Operand (Operand-F.Call f es)) s ≡ called (routine k scope f) (each s [] (map (expr k scope) es))
unfolding join operand select_item select_list tail added arm chain conjunction expr factor further multiplied negation predicate query select sum term
typing_Operand_Call k scope f es s = search (rules, the_lemmas)

pub typing_Operand_CountAll : (k : Known) (scope : Scope) (s : Frames) → operand k scope (roll-Operand Operand-F.CountAll) s ≡ Some Bigint
unfolding join operand select_item select_list tail added arm chain conjunction expr factor further multiplied negation predicate query select sum term
typing_Operand_CountAll k scope s = search (rules, the_lemmas)

pub typing_Operand_Aggregate : (k : Known) (scope : Scope) (by : Aggregate) (e : Expr) (s : Frames) → operand k scope (roll-Operand (Operand-F.Aggregate by e)) s ≡ option_and_then (aggregate by) ((expr k scope e) s)
unfolding join operand select_item select_list tail added arm chain conjunction expr factor further multiplied negation predicate query select sum term
typing_Operand_Aggregate k scope by e s = search (rules, the_lemmas)

pub typing_Operand_Case : (k : Known) (scope : Scope) (arms : List Arm) (e : Option Expr) (s : Frames) → operand k scope (roll-Operand (Operand-F.Case arms e)) s ≡ case_type (each s [] (map (arm k scope) arms)) (option_map (expr k scope) e) s
unfolding join operand select_item select_list tail added arm chain conjunction expr factor further multiplied negation predicate query select sum term
typing_Operand_Case k scope arms e s = search (rules, the_lemmas)

pub typing_Operand_Cast : (k : Known) (scope : Scope) (e : Option Expr) (sort : SqlType) (s : Frames) → operand k scope (roll-Operand (Operand-F.Cast e sort)) s ≡ cast_type (option_map (expr k scope) e) sort s
unfolding join operand select_item select_list tail added arm chain conjunction expr factor further multiplied negation predicate query select sum term
typing_Operand_Cast k scope e sort s = search (rules, the_lemmas)

pub typing_Operand_Exists : (k : Known) (scope : Scope) (q : Query) (s : Frames) → operand k scope (roll-Operand (Operand-F.Exists q)) s ≡ there ((query k scope q) s)
unfolding join operand select_item select_list tail added arm chain conjunction expr factor further multiplied negation predicate query select sum term
typing_Operand_Exists k scope q s = search (rules, the_lemmas)

pub typing_Operand_Subquery : (k : Known) (scope : Scope) (q : Query) (s : Frames) → operand k scope (roll-Operand (Operand-F.Subquery q)) s ≡ single ((query k scope q) s)
unfolding join operand select_item select_list tail added arm chain conjunction expr factor further multiplied negation predicate query select sum term
typing_Operand_Subquery k scope q s = search (rules, the_lemmas)

pub typing_Operand_Parenthesized : (k : Known) (scope : Scope) (e : Expr) (s : Frames) → operand k scope (roll-Operand (Operand-F.Parenthesized e)) s ≡ (expr k scope e) s
unfolding join operand select_item select_list tail added arm chain conjunction expr factor further multiplied negation predicate query select sum term
typing_Operand_Parenthesized k scope e s = search (rules, the_lemmas)

pub typing_SelectItem_Expr : (k : Known) (scope : Scope) (e : Expr) (name : Option NameBytes) (s : Frames) → select_item k scope (roll-SelectItem (SelectItem-F.Expr e name)) s ≡ (expr k scope e) s
unfolding join operand select_item select_list tail added arm chain conjunction expr factor further multiplied negation predicate query select sum term
typing_SelectItem_Expr k scope e name s = search (rules, the_lemmas)

pub typing_SelectItem_QualifiedStar : (k : Known) (scope : Scope) (name : NameBytes) (s : Frames) → select_item k scope (roll-SelectItem (SelectItem-F.QualifiedStar name)) s ≡ None
unfolding join operand select_item select_list tail added arm chain conjunction expr factor further multiplied negation predicate query select sum term
typing_SelectItem_QualifiedStar k scope name s = search (rules, the_lemmas)

pub typing_SelectList_Star : (k : Known) (scope : Scope) (s : Frames) → select_list k scope (roll-SelectList SelectList-F.Star) s ≡ None
unfolding join operand select_item select_list tail added arm chain conjunction expr factor further multiplied negation predicate query select sum term
typing_SelectList_Star k scope s = search (rules, the_lemmas)

pub typing_SelectList_Listed : (k : Known) (scope : Scope) (is : List SelectItem) (s : Frames) → select_list k scope (roll-SelectList (SelectList-F.Listed is)) s ≡ each s [] (map (select_item k scope) is)
unfolding join operand select_item select_list tail added arm chain conjunction expr factor further multiplied negation predicate query select sum term
typing_SelectList_Listed k scope is s = search (rules, the_lemmas)

pub typing_Tail_Compare : (k : Known) (scope : Scope) (by : Comparison) (x : Sum) (s : Frames) (left : Option SqlType) → tail k scope (roll-Tail (Tail-F.Compare by x)) s left ≡ compared left ((sum k scope x) s)
unfolding join operand select_item select_list tail added arm chain conjunction expr factor further multiplied negation predicate query select sum term
typing_Tail_Compare k scope by x s left = search (rules, the_lemmas)

pub typing_Tail_IsNull : (k : Known) (scope : Scope) (negated : Bool) (s : Frames) (left : Option SqlType) → tail k scope (roll-Tail (Tail-F.IsNull negated)) s left ≡ tested left
unfolding join operand select_item select_list tail added arm chain conjunction expr factor further multiplied negation predicate query select sum term
typing_Tail_IsNull k scope negated s left = search (rules, the_lemmas)

pub typing_Tail_Between : (k : Known) (scope : Scope) (negated : Bool) (x : Sum) (y : Sum) (s : Frames) (left : Option SqlType) → tail k scope (roll-Tail (Tail-F.Between negated x y)) s left ≡ between left ((sum k scope x) s) ((sum k scope y) s)
unfolding join operand select_item select_list tail added arm chain conjunction expr factor further multiplied negation predicate query select sum term
typing_Tail_Between k scope negated x y s left = search (rules, the_lemmas)

pub typing_Tail_InQuery : (k : Known) (scope : Scope) (negated : Bool) (q : Query) (s : Frames) (left : Option SqlType) → tail k scope (roll-Tail (Tail-F.InQuery negated q)) s left ≡ compared left (single ((query k scope q) s))
unfolding join operand select_item select_list tail added arm chain conjunction expr factor further multiplied negation predicate query select sum term
typing_Tail_InQuery k scope negated q s left = search (rules, the_lemmas)

pub typing_Tail_InList : (k : Known) (scope : Scope) (negated : Bool) (es : List Expr) (s : Frames) (left : Option SqlType) → tail k scope (roll-Tail (Tail-F.InList negated es)) s left ≡ listed left (each s [] (map (expr k scope) es))
unfolding join operand select_item select_list tail added arm chain conjunction expr factor further multiplied negation predicate query select sum term
typing_Tail_InList k scope negated es s left = search (rules, the_lemmas)

pub typing_Tail_Like : (k : Known) (scope : Scope) (negated : Bool) (x : Sum) (s : Frames) (left : Option SqlType) → tail k scope (roll-Tail (Tail-F.Like negated x)) s left ≡ like left ((sum k scope x) s)
unfolding join operand select_item select_list tail added arm chain conjunction expr factor further multiplied negation predicate query select sum term
typing_Tail_Like k scope negated x s left = search (rules, the_lemmas)

pub typing_Added : (k : Known) (scope : Scope) (by' : Additive) (term' : Term) → added k scope (roll-Added (record { by = by'; term = term' })) ≡ (by', (term k scope term'))
unfolding join operand select_item select_list tail added arm chain conjunction expr factor further multiplied negation predicate query select sum term
typing_Added k scope by' term' = search (rules, the_lemmas)

pub typing_Arm : (k : Known) (scope : Scope) (condition' : Expr) (value' : Expr) (s : Frames) → arm k scope (roll-Arm (record { condition = condition'; value = value' })) s ≡ guarded ((expr k scope condition') s) ((expr k scope value') s)
unfolding join operand select_item select_list tail added arm chain conjunction expr factor further multiplied negation predicate query select sum term
typing_Arm k scope condition' value' s = search (rules, the_lemmas)

pub typing_Conjunction : (k : Known) (scope : Scope) (every' : List Negation) (s : Frames) → conjunction k scope (roll-Conjunction (record { every = every' })) s ≡ logical (each s [] (map (negation k scope) every'))
unfolding join operand select_item select_list tail added arm chain conjunction expr factor further multiplied negation predicate query select sum term
typing_Conjunction k scope every' s = search (rules, the_lemmas)

pub typing_Expr : (k : Known) (scope : Scope) (any' : List Conjunction) (s : Frames) → expr k scope (roll-Expr (record { any = any' })) s ≡ logical (each s [] (map (conjunction k scope) any'))
unfolding join operand select_item select_list tail added arm chain conjunction expr factor further multiplied negation predicate query select sum term
typing_Expr k scope any' s = search (rules, the_lemmas)

pub typing_Factor : (k : Known) (scope : Scope) (minus' : Bool) (operand' : Operand) (s : Frames) → factor k scope (roll-Factor (record { minus = minus'; operand = operand' })) s ≡ option_and_then (negative minus') ((operand k scope operand') s)
unfolding join operand select_item select_list tail added arm chain conjunction expr factor further multiplied negation predicate query select sum term
typing_Factor k scope minus' operand' s = search (rules, the_lemmas)

pub typing_Further : (k : Known) (scope : Scope) (by' : SetOperator) (all' : Bool) (select' : Select) (s : Frames) → further k scope (roll-Further (record { by = by'; all = all'; select = select' })) s ≡ (select k scope select') s
unfolding join operand select_item select_list tail added arm chain conjunction expr factor further multiplied negation predicate query select sum term
typing_Further k scope by' all' select' s = search (rules, the_lemmas)

pub typing_Multiplied : (k : Known) (scope : Scope) (by' : Multiplicative) (factor' : Factor) (s : Frames) → multiplied k scope (roll-Multiplied (record { by = by'; factor = factor' })) s ≡ (factor k scope factor') s
unfolding join operand select_item select_list tail added arm chain conjunction expr factor further multiplied negation predicate query select sum term
typing_Multiplied k scope by' factor' s = search (rules, the_lemmas)

pub typing_Negation : (k : Known) (scope : Scope) (negated' : Bool) (predicate' : Predicate) (s : Frames) → negation k scope (roll-Negation (record { negated = negated'; predicate = predicate' })) s ≡ unless_negated negated' ((predicate k scope predicate') s)
unfolding join operand select_item select_list tail added arm chain conjunction expr factor further multiplied negation predicate query select sum term
typing_Negation k scope negated' predicate' s = search (rules, the_lemmas)

pub typing_Predicate : (k : Known) (scope : Scope) (tested' : Sum) (tail' : Option Tail) (s : Frames) → predicate k scope (roll-Predicate (record { tested = tested'; tail = tail' })) s ≡ with_tail (option_map (tail k scope) tail') s ((sum k scope tested') s)
unfolding join operand select_item select_list tail added arm chain conjunction expr factor further multiplied negation predicate query select sum term
typing_Predicate k scope tested' tail' s = search (rules, the_lemmas)

pub typing_Query : (k : Known) (scope : Scope) (first' : Select) (others' : List Further) (s : Frames) → query k scope (roll-Query (record { first = first'; others = others' })) s ≡ option_and_then (united s (map (further k scope) others')) ((select k scope first') s)
unfolding join operand select_item select_list tail added arm chain conjunction expr factor further multiplied negation predicate query select sum term
typing_Query k scope first' others' s = search (rules, the_lemmas)

pub typing_Select : (k : Known) (scope : Scope) (distinct' : Bool) (list' : SelectList) (from' : List Chain) (filter' : Option Expr) (group_by' : List Reference) (s : Frames) → select k scope (roll-Select (record { distinct = distinct'; list = list'; from = from'; filter = filter'; group_by = group_by' })) s ≡ selected_where (all_hold (map (chain k scope) from') (frame (tables (map (chain k scope) from')) ∷ s)) (holds (option_map (expr k scope) filter') (frame (tables (map (chain k scope) from')) ∷ s)) ((select_list k scope list') (frame (tables (map (chain k scope) from')) ∷ s))
unfolding join operand select_item select_list tail added arm chain conjunction expr factor further multiplied negation predicate query select sum term
typing_Select k scope distinct' list' from' filter' group_by' s = search (rules, the_lemmas)

pub typing_Sum : (k : Known) (scope : Scope) (first' : Term) (others' : List Added) (s : Frames) → sum k scope (roll-Sum (record { first = first'; others = others' })) s ≡ sum_of s ((term k scope first') s) (map (added k scope) others')
unfolding join operand select_item select_list tail added arm chain conjunction expr factor further multiplied negation predicate query select sum term
typing_Sum k scope first' others' s = search (rules, the_lemmas)

pub typing_Term : (k : Known) (scope : Scope) (first' : Factor) (others' : List Multiplied) (s : Frames) → term k scope (roll-Term (record { first = first'; others = others' })) s ≡ product_of s ((factor k scope first') s) (map (multiplied k scope) others')
unfolding join operand select_item select_list tail added arm chain conjunction expr factor further multiplied negation predicate query select sum term
typing_Term k scope first' others' s = search (rules, the_lemmas)
