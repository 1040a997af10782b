-- Aggregates and GROUP BY of a tree that is seen layer by layer, one equation for each alternative.
use Rattle.std.proofs.Common.{◌≡◌, ℕ, Bool, List, Option, map, rules}
use Rattle.std.specs.Prelude.{option_map}
use Rattle.sql_tree.specs.declared.expr.Join.{Join, roll-Join}
use Rattle.sql_tree.specs.declared.expr.Operand.{Operand, roll-Operand}
use Rattle.sql_tree.specs.declared.expr.SelectItem.{SelectItem, roll-SelectItem}
use Rattle.sql_tree.specs.declared.expr.SelectList.{SelectList, roll-SelectList}
use Rattle.sql_tree.specs.declared.expr.Tail.{Tail, roll-Tail}
use Rattle.sql_tree.specs.declared.expr.Added.{Added, roll-Added}
use Rattle.sql_tree.specs.declared.expr.Arm.{Arm, roll-Arm}
use Rattle.sql_tree.specs.declared.expr.Chain.{Chain, roll-Chain}
use Rattle.sql_tree.specs.declared.expr.Conjunction.{Conjunction, roll-Conjunction}
use Rattle.sql_tree.specs.declared.expr.Expr.{Expr, roll-Expr, the_lemmas}
use Rattle.sql_tree.specs.declared.expr.Factor.{Factor, roll-Factor}
use Rattle.sql_tree.specs.declared.expr.Further.{Further, roll-Further}
use Rattle.sql_tree.specs.declared.expr.Multiplied.{Multiplied, roll-Multiplied}
use Rattle.sql_tree.specs.declared.expr.Negation.{Negation, roll-Negation}
use Rattle.sql_tree.specs.declared.expr.Predicate.{Predicate, roll-Predicate}
use Rattle.sql_tree.specs.declared.expr.Query.{Query, roll-Query}
use Rattle.sql_tree.specs.declared.expr.Select.{Select, roll-Select}
use Rattle.sql_tree.specs.declared.expr.Sum.{Sum, roll-Sum}
use Rattle.sql_tree.specs.declared.expr.Term.{Term, roll-Term}
use Rattle.sql_tree.specs.declared.expr.Join.TheOpen.{Join-F, Operand-F, SelectItem-F, SelectList-F, Tail-F}
use Rattle.sql_tree.specs.declared.expr.Comparison.{Comparison}
use Rattle.sql_tree.specs.declared.expr.Aggregate.{Aggregate}
use Rattle.sql_tree.specs.declared.expr.Additive.{Additive}
use Rattle.sql_tree.specs.declared.expr.Multiplicative.{Multiplicative}
use Rattle.sql_tree.specs.declared.expr.SetOperator.{SetOperator}
use Rattle.sql_names.specs.declared.sort.SqlType.{SqlType}
use Rattle.sql_names.specs.declared.sort.Special.{Special}
use Rattle.sql_names.specs.declared.column.Reference.{Reference}
use Rattle.sql_names.specs.declared.column.ObjectName.{ObjectName}
use Rattle.sql_names.specs.declared.column.TableReference.{TableReference}
use Rattle.sql_names.specs.NameBytes.{NameBytes}
use Rattle.query_types.specs.Aggregates.{nothing, both, join_all, perhaps, referred, aggregated, settled}
use Rattle.query_types.specs.Grouping as grouping

pub grouping_Join_Inner : (table' : TableReference) (on' : Expr) → grouping.join (roll-Join (Join-F.Inner table' on')) ≡ grouping.expr on'
unfolding grouping.join grouping.operand grouping.select_item grouping.select_list grouping.tail grouping.added grouping.arm grouping.chain grouping.conjunction grouping.expr grouping.factor grouping.further grouping.multiplied grouping.negation grouping.predicate grouping.query grouping.select grouping.sum grouping.term
grouping_Join_Inner table' on' = search (rules, the_lemmas)

pub grouping_Join_Cross : (table' : TableReference) → grouping.join (roll-Join (Join-F.Cross table')) ≡ nothing
unfolding grouping.join grouping.operand grouping.select_item grouping.select_list grouping.tail grouping.added grouping.arm grouping.chain grouping.conjunction grouping.expr grouping.factor grouping.further grouping.multiplied grouping.negation grouping.predicate grouping.query grouping.select grouping.sum grouping.term
grouping_Join_Cross table' = search (rules, the_lemmas)

pub grouping_Operand_Literal : (text' : List ℕ) → grouping.operand (roll-Operand (Operand-F.Literal text')) ≡ nothing
unfolding grouping.join grouping.operand grouping.select_item grouping.select_list grouping.tail grouping.added grouping.arm grouping.chain grouping.conjunction grouping.expr grouping.factor grouping.further grouping.multiplied grouping.negation grouping.predicate grouping.query grouping.select grouping.sum grouping.term
grouping_Operand_Literal text' = search (rules, the_lemmas)

pub grouping_Operand_Number : (text' : List ℕ) → grouping.operand (roll-Operand (Operand-F.Number text')) ≡ nothing
unfolding grouping.join grouping.operand grouping.select_item grouping.select_list grouping.tail grouping.added grouping.arm grouping.chain grouping.conjunction grouping.expr grouping.factor grouping.further grouping.multiplied grouping.negation grouping.predicate grouping.query grouping.select grouping.sum grouping.term
grouping_Operand_Number text' = search (rules, the_lemmas)

pub grouping_Operand_True : grouping.operand (roll-Operand Operand-F.True) ≡ nothing
unfolding grouping.join grouping.operand grouping.select_item grouping.select_list grouping.tail grouping.added grouping.arm grouping.chain grouping.conjunction grouping.expr grouping.factor grouping.further grouping.multiplied grouping.negation grouping.predicate grouping.query grouping.select grouping.sum grouping.term
grouping_Operand_True = search (rules, the_lemmas)

pub grouping_Operand_False : grouping.operand (roll-Operand Operand-F.False) ≡ nothing
unfolding grouping.join grouping.operand grouping.select_item grouping.select_list grouping.tail grouping.added grouping.arm grouping.chain grouping.conjunction grouping.expr grouping.factor grouping.further grouping.multiplied grouping.negation grouping.predicate grouping.query grouping.select grouping.sum grouping.term
grouping_Operand_False = search (rules, the_lemmas)

pub grouping_Operand_Special : (special' : Special) → grouping.operand (roll-Operand (Operand-F.Special special')) ≡ nothing
unfolding grouping.join grouping.operand grouping.select_item grouping.select_list grouping.tail grouping.added grouping.arm grouping.chain grouping.conjunction grouping.expr grouping.factor grouping.further grouping.multiplied grouping.negation grouping.predicate grouping.query grouping.select grouping.sum grouping.term
grouping_Operand_Special special' = search (rules, the_lemmas)

pub grouping_Operand_Value : grouping.operand (roll-Operand Operand-F.Value) ≡ nothing
unfolding grouping.join grouping.operand grouping.select_item grouping.select_list grouping.tail grouping.added grouping.arm grouping.chain grouping.conjunction grouping.expr grouping.factor grouping.further grouping.multiplied grouping.negation grouping.predicate grouping.query grouping.select grouping.sum grouping.term
grouping_Operand_Value = search (rules, the_lemmas)

pub grouping_Operand_Reference : (r' : Reference) → grouping.operand (roll-Operand (Operand-F.Reference r')) ≡ referred r'
unfolding grouping.join grouping.operand grouping.select_item grouping.select_list grouping.tail grouping.added grouping.arm grouping.chain grouping.conjunction grouping.expr grouping.factor grouping.further grouping.multiplied grouping.negation grouping.predicate grouping.query grouping.select grouping.sum grouping.term
grouping_Operand_Reference r' = search (rules, the_lemmas)

pub grouping_Operand_Call : (f' : ObjectName) (es' : List Expr) → grouping.operand (roll-Operand (Operand-F.Call f' es')) ≡ join_all nothing (map grouping.expr es')
unfolding grouping.join grouping.operand grouping.select_item grouping.select_list grouping.tail grouping.added grouping.arm grouping.chain grouping.conjunction grouping.expr grouping.factor grouping.further grouping.multiplied grouping.negation grouping.predicate grouping.query grouping.select grouping.sum grouping.term
grouping_Operand_Call f' es' = search (rules, the_lemmas)

pub grouping_Operand_CountAll : grouping.operand (roll-Operand Operand-F.CountAll) ≡ aggregated nothing
unfolding grouping.join grouping.operand grouping.select_item grouping.select_list grouping.tail grouping.added grouping.arm grouping.chain grouping.conjunction grouping.expr grouping.factor grouping.further grouping.multiplied grouping.negation grouping.predicate grouping.query grouping.select grouping.sum grouping.term
grouping_Operand_CountAll = search (rules, the_lemmas)

pub grouping_Operand_Aggregate : (by' : Aggregate) (e' : Expr) → grouping.operand (roll-Operand (Operand-F.Aggregate by' e')) ≡ aggregated (grouping.expr e')
unfolding grouping.join grouping.operand grouping.select_item grouping.select_list grouping.tail grouping.added grouping.arm grouping.chain grouping.conjunction grouping.expr grouping.factor grouping.further grouping.multiplied grouping.negation grouping.predicate grouping.query grouping.select grouping.sum grouping.term
grouping_Operand_Aggregate by' e' = search (rules, the_lemmas)

pub grouping_Operand_Case : (arms' : List Arm) (e' : Option Expr) → grouping.operand (roll-Operand (Operand-F.Case arms' e')) ≡ both (join_all nothing (map grouping.arm arms')) (perhaps (option_map grouping.expr e'))
unfolding grouping.join grouping.operand grouping.select_item grouping.select_list grouping.tail grouping.added grouping.arm grouping.chain grouping.conjunction grouping.expr grouping.factor grouping.further grouping.multiplied grouping.negation grouping.predicate grouping.query grouping.select grouping.sum grouping.term
grouping_Operand_Case arms' e' = search (rules, the_lemmas)

pub grouping_Operand_Cast : (e' : Option Expr) (sort' : SqlType) → grouping.operand (roll-Operand (Operand-F.Cast e' sort')) ≡ perhaps (option_map grouping.expr e')
unfolding grouping.join grouping.operand grouping.select_item grouping.select_list grouping.tail grouping.added grouping.arm grouping.chain grouping.conjunction grouping.expr grouping.factor grouping.further grouping.multiplied grouping.negation grouping.predicate grouping.query grouping.select grouping.sum grouping.term
grouping_Operand_Cast e' sort' = search (rules, the_lemmas)

pub grouping_Operand_Exists : (q' : Query) → grouping.operand (roll-Operand (Operand-F.Exists q')) ≡ grouping.query q'
unfolding grouping.join grouping.operand grouping.select_item grouping.select_list grouping.tail grouping.added grouping.arm grouping.chain grouping.conjunction grouping.expr grouping.factor grouping.further grouping.multiplied grouping.negation grouping.predicate grouping.query grouping.select grouping.sum grouping.term
grouping_Operand_Exists q' = search (rules, the_lemmas)

pub grouping_Operand_Subquery : (q' : Query) → grouping.operand (roll-Operand (Operand-F.Subquery q')) ≡ grouping.query q'
unfolding grouping.join grouping.operand grouping.select_item grouping.select_list grouping.tail grouping.added grouping.arm grouping.chain grouping.conjunction grouping.expr grouping.factor grouping.further grouping.multiplied grouping.negation grouping.predicate grouping.query grouping.select grouping.sum grouping.term
grouping_Operand_Subquery q' = search (rules, the_lemmas)

pub grouping_Operand_Parenthesized : (e' : Expr) → grouping.operand (roll-Operand (Operand-F.Parenthesized e')) ≡ grouping.expr e'
unfolding grouping.join grouping.operand grouping.select_item grouping.select_list grouping.tail grouping.added grouping.arm grouping.chain grouping.conjunction grouping.expr grouping.factor grouping.further grouping.multiplied grouping.negation grouping.predicate grouping.query grouping.select grouping.sum grouping.term
grouping_Operand_Parenthesized e' = search (rules, the_lemmas)

pub grouping_SelectItem_Expr : (e' : Expr) (name' : Option NameBytes) → grouping.select_item (roll-SelectItem (SelectItem-F.Expr e' name')) ≡ grouping.expr e'
unfolding grouping.join grouping.operand grouping.select_item grouping.select_list grouping.tail grouping.added grouping.arm grouping.chain grouping.conjunction grouping.expr grouping.factor grouping.further grouping.multiplied grouping.negation grouping.predicate grouping.query grouping.select grouping.sum grouping.term
grouping_SelectItem_Expr e' name' = search (rules, the_lemmas)

pub grouping_SelectItem_QualifiedStar : (q' : NameBytes) → grouping.select_item (roll-SelectItem (SelectItem-F.QualifiedStar q')) ≡ nothing
unfolding grouping.join grouping.operand grouping.select_item grouping.select_list grouping.tail grouping.added grouping.arm grouping.chain grouping.conjunction grouping.expr grouping.factor grouping.further grouping.multiplied grouping.negation grouping.predicate grouping.query grouping.select grouping.sum grouping.term
grouping_SelectItem_QualifiedStar q' = search (rules, the_lemmas)

pub grouping_SelectList_Star : grouping.select_list (roll-SelectList SelectList-F.Star) ≡ nothing
unfolding grouping.join grouping.operand grouping.select_item grouping.select_list grouping.tail grouping.added grouping.arm grouping.chain grouping.conjunction grouping.expr grouping.factor grouping.further grouping.multiplied grouping.negation grouping.predicate grouping.query grouping.select grouping.sum grouping.term
grouping_SelectList_Star = search (rules, the_lemmas)

pub grouping_SelectList_Listed : (is' : List SelectItem) → grouping.select_list (roll-SelectList (SelectList-F.Listed is')) ≡ join_all nothing (map grouping.select_item is')
unfolding grouping.join grouping.operand grouping.select_item grouping.select_list grouping.tail grouping.added grouping.arm grouping.chain grouping.conjunction grouping.expr grouping.factor grouping.further grouping.multiplied grouping.negation grouping.predicate grouping.query grouping.select grouping.sum grouping.term
grouping_SelectList_Listed is' = search (rules, the_lemmas)

pub grouping_Tail_Compare : (by' : Comparison) (x' : Sum) → grouping.tail (roll-Tail (Tail-F.Compare by' x')) ≡ grouping.sum x'
unfolding grouping.join grouping.operand grouping.select_item grouping.select_list grouping.tail grouping.added grouping.arm grouping.chain grouping.conjunction grouping.expr grouping.factor grouping.further grouping.multiplied grouping.negation grouping.predicate grouping.query grouping.select grouping.sum grouping.term
grouping_Tail_Compare by' x' = search (rules, the_lemmas)

pub grouping_Tail_IsNull : (negated' : Bool) → grouping.tail (roll-Tail (Tail-F.IsNull negated')) ≡ nothing
unfolding grouping.join grouping.operand grouping.select_item grouping.select_list grouping.tail grouping.added grouping.arm grouping.chain grouping.conjunction grouping.expr grouping.factor grouping.further grouping.multiplied grouping.negation grouping.predicate grouping.query grouping.select grouping.sum grouping.term
grouping_Tail_IsNull negated' = search (rules, the_lemmas)

pub grouping_Tail_Between : (negated' : Bool) (x' : Sum) (y' : Sum) → grouping.tail (roll-Tail (Tail-F.Between negated' x' y')) ≡ both (grouping.sum x') (grouping.sum y')
unfolding grouping.join grouping.operand grouping.select_item grouping.select_list grouping.tail grouping.added grouping.arm grouping.chain grouping.conjunction grouping.expr grouping.factor grouping.further grouping.multiplied grouping.negation grouping.predicate grouping.query grouping.select grouping.sum grouping.term
grouping_Tail_Between negated' x' y' = search (rules, the_lemmas)

pub grouping_Tail_InQuery : (negated' : Bool) (q' : Query) → grouping.tail (roll-Tail (Tail-F.InQuery negated' q')) ≡ grouping.query q'
unfolding grouping.join grouping.operand grouping.select_item grouping.select_list grouping.tail grouping.added grouping.arm grouping.chain grouping.conjunction grouping.expr grouping.factor grouping.further grouping.multiplied grouping.negation grouping.predicate grouping.query grouping.select grouping.sum grouping.term
grouping_Tail_InQuery negated' q' = search (rules, the_lemmas)

pub grouping_Tail_InList : (negated' : Bool) (es' : List Expr) → grouping.tail (roll-Tail (Tail-F.InList negated' es')) ≡ join_all nothing (map grouping.expr es')
unfolding grouping.join grouping.operand grouping.select_item grouping.select_list grouping.tail grouping.added grouping.arm grouping.chain grouping.conjunction grouping.expr grouping.factor grouping.further grouping.multiplied grouping.negation grouping.predicate grouping.query grouping.select grouping.sum grouping.term
grouping_Tail_InList negated' es' = search (rules, the_lemmas)

pub grouping_Tail_Like : (negated' : Bool) (x' : Sum) → grouping.tail (roll-Tail (Tail-F.Like negated' x')) ≡ grouping.sum x'
unfolding grouping.join grouping.operand grouping.select_item grouping.select_list grouping.tail grouping.added grouping.arm grouping.chain grouping.conjunction grouping.expr grouping.factor grouping.further grouping.multiplied grouping.negation grouping.predicate grouping.query grouping.select grouping.sum grouping.term
grouping_Tail_Like negated' x' = search (rules, the_lemmas)

pub grouping_Added : (by' : Additive) (term' : Term) → grouping.added (roll-Added (record { by = by'; term = term' })) ≡ grouping.term term'
unfolding grouping.join grouping.operand grouping.select_item grouping.select_list grouping.tail grouping.added grouping.arm grouping.chain grouping.conjunction grouping.expr grouping.factor grouping.further grouping.multiplied grouping.negation grouping.predicate grouping.query grouping.select grouping.sum grouping.term
grouping_Added by' term' = search (rules, the_lemmas)

pub grouping_Arm : (condition' : Expr) (value' : Expr) → grouping.arm (roll-Arm (record { condition = condition'; value = value' })) ≡ both (grouping.expr condition') (grouping.expr value')
unfolding grouping.join grouping.operand grouping.select_item grouping.select_list grouping.tail grouping.added grouping.arm grouping.chain grouping.conjunction grouping.expr grouping.factor grouping.further grouping.multiplied grouping.negation grouping.predicate grouping.query grouping.select grouping.sum grouping.term
grouping_Arm condition' value' = search (rules, the_lemmas)

pub grouping_Chain : (first' : TableReference) (joins' : List Join) → grouping.chain (roll-Chain (record { first = first'; joins = joins' })) ≡ join_all nothing (map grouping.join joins')
unfolding grouping.join grouping.operand grouping.select_item grouping.select_list grouping.tail grouping.added grouping.arm grouping.chain grouping.conjunction grouping.expr grouping.factor grouping.further grouping.multiplied grouping.negation grouping.predicate grouping.query grouping.select grouping.sum grouping.term
grouping_Chain first' joins' = search (rules, the_lemmas)

pub grouping_Conjunction : (every' : List Negation) → grouping.conjunction (roll-Conjunction (record { every = every' })) ≡ join_all nothing (map grouping.negation every')
unfolding grouping.join grouping.operand grouping.select_item grouping.select_list grouping.tail grouping.added grouping.arm grouping.chain grouping.conjunction grouping.expr grouping.factor grouping.further grouping.multiplied grouping.negation grouping.predicate grouping.query grouping.select grouping.sum grouping.term
grouping_Conjunction every' = search (rules, the_lemmas)

pub grouping_Expr : (any' : List Conjunction) → grouping.expr (roll-Expr (record { any = any' })) ≡ join_all nothing (map grouping.conjunction any')
unfolding grouping.join grouping.operand grouping.select_item grouping.select_list grouping.tail grouping.added grouping.arm grouping.chain grouping.conjunction grouping.expr grouping.factor grouping.further grouping.multiplied grouping.negation grouping.predicate grouping.query grouping.select grouping.sum grouping.term
grouping_Expr any' = search (rules, the_lemmas)

pub grouping_Factor : (minus' : Bool) (operand' : Operand) → grouping.factor (roll-Factor (record { minus = minus'; operand = operand' })) ≡ grouping.operand operand'
unfolding grouping.join grouping.operand grouping.select_item grouping.select_list grouping.tail grouping.added grouping.arm grouping.chain grouping.conjunction grouping.expr grouping.factor grouping.further grouping.multiplied grouping.negation grouping.predicate grouping.query grouping.select grouping.sum grouping.term
grouping_Factor minus' operand' = search (rules, the_lemmas)

pub grouping_Further : (by' : SetOperator) (all' : Bool) (select' : Select) → grouping.further (roll-Further (record { by = by'; all = all'; select = select' })) ≡ grouping.select select'
unfolding grouping.join grouping.operand grouping.select_item grouping.select_list grouping.tail grouping.added grouping.arm grouping.chain grouping.conjunction grouping.expr grouping.factor grouping.further grouping.multiplied grouping.negation grouping.predicate grouping.query grouping.select grouping.sum grouping.term
grouping_Further by' all' select' = search (rules, the_lemmas)

pub grouping_Multiplied : (by' : Multiplicative) (factor' : Factor) → grouping.multiplied (roll-Multiplied (record { by = by'; factor = factor' })) ≡ grouping.factor factor'
unfolding grouping.join grouping.operand grouping.select_item grouping.select_list grouping.tail grouping.added grouping.arm grouping.chain grouping.conjunction grouping.expr grouping.factor grouping.further grouping.multiplied grouping.negation grouping.predicate grouping.query grouping.select grouping.sum grouping.term
grouping_Multiplied by' factor' = search (rules, the_lemmas)

pub grouping_Negation : (negated' : Bool) (predicate' : Predicate) → grouping.negation (roll-Negation (record { negated = negated'; predicate = predicate' })) ≡ grouping.predicate predicate'
unfolding grouping.join grouping.operand grouping.select_item grouping.select_list grouping.tail grouping.added grouping.arm grouping.chain grouping.conjunction grouping.expr grouping.factor grouping.further grouping.multiplied grouping.negation grouping.predicate grouping.query grouping.select grouping.sum grouping.term
grouping_Negation negated' predicate' = search (rules, the_lemmas)

pub grouping_Predicate : (tested' : Sum) (tail' : Option Tail) → grouping.predicate (roll-Predicate (record { tested = tested'; tail = tail' })) ≡ both (grouping.sum tested') (perhaps (option_map grouping.tail tail'))
unfolding grouping.join grouping.operand grouping.select_item grouping.select_list grouping.tail grouping.added grouping.arm grouping.chain grouping.conjunction grouping.expr grouping.factor grouping.further grouping.multiplied grouping.negation grouping.predicate grouping.query grouping.select grouping.sum grouping.term
grouping_Predicate tested' tail' = search (rules, the_lemmas)

pub grouping_Query : (first' : Select) (others' : List Further) → grouping.query (roll-Query (record { first = first'; others = others' })) ≡ both (grouping.select first') (join_all nothing (map grouping.further others'))
unfolding grouping.join grouping.operand grouping.select_item grouping.select_list grouping.tail grouping.added grouping.arm grouping.chain grouping.conjunction grouping.expr grouping.factor grouping.further grouping.multiplied grouping.negation grouping.predicate grouping.query grouping.select grouping.sum grouping.term
grouping_Query first' others' = search (rules, the_lemmas)

pub grouping_Select : (distinct' : Bool) (list' : SelectList) (from' : List Chain) (filter' : Option Expr) (group_by' : List Reference) → grouping.select (roll-Select (record { distinct = distinct'; list = list'; from = from'; filter = filter'; group_by = group_by' })) ≡ settled (join_all nothing (map grouping.chain from')) (grouping.select_list list') (perhaps (option_map grouping.expr filter')) group_by'
unfolding grouping.join grouping.operand grouping.select_item grouping.select_list grouping.tail grouping.added grouping.arm grouping.chain grouping.conjunction grouping.expr grouping.factor grouping.further grouping.multiplied grouping.negation grouping.predicate grouping.query grouping.select grouping.sum grouping.term
grouping_Select distinct' list' from' filter' group_by' = search (rules, the_lemmas)

pub grouping_Sum : (first' : Term) (others' : List Added) → grouping.sum (roll-Sum (record { first = first'; others = others' })) ≡ both (grouping.term first') (join_all nothing (map grouping.added others'))
unfolding grouping.join grouping.operand grouping.select_item grouping.select_list grouping.tail grouping.added grouping.arm grouping.chain grouping.conjunction grouping.expr grouping.factor grouping.further grouping.multiplied grouping.negation grouping.predicate grouping.query grouping.select grouping.sum grouping.term
grouping_Sum first' others' = search (rules, the_lemmas)

pub grouping_Term : (first' : Factor) (others' : List Multiplied) → grouping.term (roll-Term (record { first = first'; others = others' })) ≡ both (grouping.factor first') (join_all nothing (map grouping.multiplied others'))
unfolding grouping.join grouping.operand grouping.select_item grouping.select_list grouping.tail grouping.added grouping.arm grouping.chain grouping.conjunction grouping.expr grouping.factor grouping.further grouping.multiplied grouping.negation grouping.predicate grouping.query grouping.select grouping.sum grouping.term
grouping_Term first' others' = search (rules, the_lemmas)
