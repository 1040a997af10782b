-- Which parts of a tree are without aggregates and subqueries, one equation for each alternative.
use Rattle.std.proofs.Common.{◌≡◌, ℕ, Bool, true, false, ◌&&◌, List, [], ◌∷◌, Option, Some, None, map, refl, rules}
use Rattle.std.specs.Prelude.{option_map}
use Rattle.sql_tree.specs.declared.expr.Added.{Added, out-Added}
use Rattle.sql_tree.specs.declared.expr.Arm.{Arm, out-Arm}
use Rattle.sql_tree.specs.declared.expr.Conjunction.{Conjunction, out-Conjunction}
use Rattle.sql_tree.specs.declared.expr.Expr.{Expr, out-Expr, the_lemmas}
use Rattle.sql_tree.specs.declared.expr.Factor.{Factor, out-Factor}
use Rattle.sql_tree.specs.declared.expr.Multiplied.{Multiplied, out-Multiplied}
use Rattle.sql_tree.specs.declared.expr.Negation.{Negation, out-Negation}
use Rattle.sql_tree.specs.declared.expr.Predicate.{Predicate, out-Predicate}
use Rattle.sql_tree.specs.declared.expr.Query.{Query}
use Rattle.sql_tree.specs.declared.expr.Sum.{Sum, out-Sum}
use Rattle.sql_tree.specs.declared.expr.Term.{Term, out-Term}
use Rattle.sql_tree.specs.declared.expr.Operand.TheVariants as operands
use Rattle.sql_tree.specs.declared.expr.Tail.TheVariants as tails
use Rattle.sql_tree.specs.declared.expr.Comparison.{Comparison}
use Rattle.sql_tree.specs.declared.expr.Aggregate.{Aggregate}
use Rattle.sql_names.specs.declared.sort.SqlType.{SqlType}
use Rattle.sql_names.specs.declared.sort.Special.{Special}
use Rattle.sql_names.specs.declared.column.Reference.{Reference}
use Rattle.sql_names.specs.declared.column.ObjectName.{ObjectName}
use Rattle.cat_items.specs.Plain.{Alone, all_simple, optional_simple, only, only_first, only_tested, unless, base_of}
use Rattle.plain_views.specs.Alone.{join_base, operand_base, select_item_base, select_list_base, tail_base, added_base, arm_base, chain_base, conjunction_base, expr_base, factor_base, further_base, multiplied_base, negation_base, predicate_base, select_base, sum_base, term_base}

both_true : (b : Bool) → b ≡ (b && true)
both_true true = refl
both_true false = refl

simple_only : (parts : List Alone) → (only parts).simple ≡ all_simple parts
simple_only [] = refl
simple_only (a ∷ []) = both_true a.simple
simple_only (a ∷ b ∷ parts) = refl

simple_first : (part : Alone) (others : List Alone) → (only_first part others).simple ≡ (part.simple && all_simple others)
simple_first part [] = both_true part.simple
simple_first part (a ∷ others) = refl

simple_tested : (part : Alone) (tail : Option Alone) → (only_tested part tail).simple ≡ (part.simple && optional_simple tail)
simple_tested part None = both_true part.simple
simple_tested part (Some tail) = refl

simple_unless : (b : Bool) (part : Alone) → (unless b part).simple ≡ part.simple
simple_unless true part = refl
simple_unless false part = refl

ruleset parts = (simple_only, simple_first, simple_tested, simple_unless)

pub simple_Operand_Literal : (text' : List ℕ) → (operand_base (operands.Literal text')).simple ≡ (true)
unfolding join_base operand_base select_item_base select_list_base tail_base added_base arm_base chain_base conjunction_base expr_base factor_base further_base multiplied_base negation_base predicate_base select_base sum_base term_base base_of
simple_Operand_Literal text' = search (rules, the_lemmas, parts)

pub simple_Operand_Number : (text' : List ℕ) → (operand_base (operands.Number text')).simple ≡ (true)
unfolding join_base operand_base select_item_base select_list_base tail_base added_base arm_base chain_base conjunction_base expr_base factor_base further_base multiplied_base negation_base predicate_base select_base sum_base term_base base_of
simple_Operand_Number text' = search (rules, the_lemmas, parts)

pub simple_Operand_True : (operand_base operands.True).simple ≡ (true)
unfolding join_base operand_base select_item_base select_list_base tail_base added_base arm_base chain_base conjunction_base expr_base factor_base further_base multiplied_base negation_base predicate_base select_base sum_base term_base base_of
simple_Operand_True = search (rules, the_lemmas, parts)

pub simple_Operand_False : (operand_base operands.False).simple ≡ (true)
unfolding join_base operand_base select_item_base select_list_base tail_base added_base arm_base chain_base conjunction_base expr_base factor_base further_base multiplied_base negation_base predicate_base select_base sum_base term_base base_of
simple_Operand_False = search (rules, the_lemmas, parts)

pub simple_Operand_Special : (special' : Special) → (operand_base (operands.Special special')).simple ≡ (true)
unfolding join_base operand_base select_item_base select_list_base tail_base added_base arm_base chain_base conjunction_base expr_base factor_base further_base multiplied_base negation_base predicate_base select_base sum_base term_base base_of
simple_Operand_Special special' = search (rules, the_lemmas, parts)

pub simple_Operand_Value : (operand_base operands.Value).simple ≡ (true)
unfolding join_base operand_base select_item_base select_list_base tail_base added_base arm_base chain_base conjunction_base expr_base factor_base further_base multiplied_base negation_base predicate_base select_base sum_base term_base base_of
simple_Operand_Value = search (rules, the_lemmas, parts)

pub simple_Operand_Reference : (r' : Reference) → (operand_base (operands.Reference r')).simple ≡ (true)
unfolding join_base operand_base select_item_base select_list_base tail_base added_base arm_base chain_base conjunction_base expr_base factor_base further_base multiplied_base negation_base predicate_base select_base sum_base term_base base_of
simple_Operand_Reference r' = search (rules, the_lemmas, parts)

pub simple_Operand_Call : (f' : ObjectName) (es' : List Expr) → (operand_base (operands.Call f' es')).simple ≡ (all_simple (map expr_base es'))
unfolding join_base operand_base select_item_base select_list_base tail_base added_base arm_base chain_base conjunction_base expr_base factor_base further_base multiplied_base negation_base predicate_base select_base sum_base term_base base_of
simple_Operand_Call f' es' = search (rules, the_lemmas, parts)

pub simple_Operand_CountAll : (operand_base operands.CountAll).simple ≡ (false)
unfolding join_base operand_base select_item_base select_list_base tail_base added_base arm_base chain_base conjunction_base expr_base factor_base further_base multiplied_base negation_base predicate_base select_base sum_base term_base base_of
simple_Operand_CountAll = search (rules, the_lemmas, parts)

pub simple_Operand_Aggregate : (by' : Aggregate) (e' : Expr) → (operand_base (operands.Aggregate by' e')).simple ≡ (false)
unfolding join_base operand_base select_item_base select_list_base tail_base added_base arm_base chain_base conjunction_base expr_base factor_base further_base multiplied_base negation_base predicate_base select_base sum_base term_base base_of
simple_Operand_Aggregate by' e' = search (rules, the_lemmas, parts)

pub simple_Operand_Case : (arms' : List Arm) (e' : Option Expr) → (operand_base (operands.Case arms' e')).simple ≡ (all_simple (map arm_base arms') && optional_simple (option_map expr_base e'))
unfolding join_base operand_base select_item_base select_list_base tail_base added_base arm_base chain_base conjunction_base expr_base factor_base further_base multiplied_base negation_base predicate_base select_base sum_base term_base base_of
simple_Operand_Case arms' e' = search (rules, the_lemmas, parts)

pub simple_Operand_Cast : (e' : Option Expr) (sort' : SqlType) → (operand_base (operands.Cast e' sort')).simple ≡ (optional_simple (option_map expr_base e'))
unfolding join_base operand_base select_item_base select_list_base tail_base added_base arm_base chain_base conjunction_base expr_base factor_base further_base multiplied_base negation_base predicate_base select_base sum_base term_base base_of
simple_Operand_Cast e' sort' = search (rules, the_lemmas, parts)

pub simple_Operand_Exists : (q' : Query) → (operand_base (operands.Exists q')).simple ≡ (false)
unfolding join_base operand_base select_item_base select_list_base tail_base added_base arm_base chain_base conjunction_base expr_base factor_base further_base multiplied_base negation_base predicate_base select_base sum_base term_base base_of
simple_Operand_Exists q' = search (rules, the_lemmas, parts)

pub simple_Operand_Subquery : (q' : Query) → (operand_base (operands.Subquery q')).simple ≡ (false)
unfolding join_base operand_base select_item_base select_list_base tail_base added_base arm_base chain_base conjunction_base expr_base factor_base further_base multiplied_base negation_base predicate_base select_base sum_base term_base base_of
simple_Operand_Subquery q' = search (rules, the_lemmas, parts)

pub simple_Operand_Parenthesized : (e' : Expr) → (operand_base (operands.Parenthesized e')).simple ≡ ((expr_base e').simple)
unfolding join_base operand_base select_item_base select_list_base tail_base added_base arm_base chain_base conjunction_base expr_base factor_base further_base multiplied_base negation_base predicate_base select_base sum_base term_base base_of
simple_Operand_Parenthesized e' = search (rules, the_lemmas, parts)

pub simple_Tail_Compare : (by' : Comparison) (x' : Sum) → (tail_base (tails.Compare by' x')).simple ≡ ((sum_base x').simple)
unfolding join_base operand_base select_item_base select_list_base tail_base added_base arm_base chain_base conjunction_base expr_base factor_base further_base multiplied_base negation_base predicate_base select_base sum_base term_base base_of
simple_Tail_Compare by' x' = search (rules, the_lemmas, parts)

pub simple_Tail_IsNull : (negated' : Bool) → (tail_base (tails.IsNull negated')).simple ≡ (true)
unfolding join_base operand_base select_item_base select_list_base tail_base added_base arm_base chain_base conjunction_base expr_base factor_base further_base multiplied_base negation_base predicate_base select_base sum_base term_base base_of
simple_Tail_IsNull negated' = search (rules, the_lemmas, parts)

pub simple_Tail_Between : (negated' : Bool) (x' : Sum) (y' : Sum) → (tail_base (tails.Between negated' x' y')).simple ≡ ((sum_base x').simple && (sum_base y').simple)
unfolding join_base operand_base select_item_base select_list_base tail_base added_base arm_base chain_base conjunction_base expr_base factor_base further_base multiplied_base negation_base predicate_base select_base sum_base term_base base_of
simple_Tail_Between negated' x' y' = search (rules, the_lemmas, parts)

pub simple_Tail_InQuery : (negated' : Bool) (q' : Query) → (tail_base (tails.InQuery negated' q')).simple ≡ (false)
unfolding join_base operand_base select_item_base select_list_base tail_base added_base arm_base chain_base conjunction_base expr_base factor_base further_base multiplied_base negation_base predicate_base select_base sum_base term_base base_of
simple_Tail_InQuery negated' q' = search (rules, the_lemmas, parts)

pub simple_Tail_InList : (negated' : Bool) (es' : List Expr) → (tail_base (tails.InList negated' es')).simple ≡ (all_simple (map expr_base es'))
unfolding join_base operand_base select_item_base select_list_base tail_base added_base arm_base chain_base conjunction_base expr_base factor_base further_base multiplied_base negation_base predicate_base select_base sum_base term_base base_of
simple_Tail_InList negated' es' = search (rules, the_lemmas, parts)

pub simple_Tail_Like : (negated' : Bool) (x' : Sum) → (tail_base (tails.Like negated' x')).simple ≡ ((sum_base x').simple)
unfolding join_base operand_base select_item_base select_list_base tail_base added_base arm_base chain_base conjunction_base expr_base factor_base further_base multiplied_base negation_base predicate_base select_base sum_base term_base base_of
simple_Tail_Like negated' x' = search (rules, the_lemmas, parts)

pub simple_Added : (x : Added) → (added_base x).simple ≡ ((term_base (out-Added x).term).simple)
unfolding join_base operand_base select_item_base select_list_base tail_base added_base arm_base chain_base conjunction_base expr_base factor_base further_base multiplied_base negation_base predicate_base select_base sum_base term_base base_of
simple_Added x = search (rules, the_lemmas, parts)

pub simple_Arm : (x : Arm) → (arm_base x).simple ≡ ((expr_base (out-Arm x).condition).simple && (expr_base (out-Arm x).value).simple)
unfolding join_base operand_base select_item_base select_list_base tail_base added_base arm_base chain_base conjunction_base expr_base factor_base further_base multiplied_base negation_base predicate_base select_base sum_base term_base base_of
simple_Arm x = search (rules, the_lemmas, parts)

pub simple_Conjunction : (x : Conjunction) → (conjunction_base x).simple ≡ (all_simple (map negation_base (out-Conjunction x).every))
unfolding join_base operand_base select_item_base select_list_base tail_base added_base arm_base chain_base conjunction_base expr_base factor_base further_base multiplied_base negation_base predicate_base select_base sum_base term_base base_of
simple_Conjunction x = search (rules, the_lemmas, parts)

pub simple_Expr : (x : Expr) → (expr_base x).simple ≡ (all_simple (map conjunction_base (out-Expr x).any))
unfolding join_base operand_base select_item_base select_list_base tail_base added_base arm_base chain_base conjunction_base expr_base factor_base further_base multiplied_base negation_base predicate_base select_base sum_base term_base base_of
simple_Expr x = search (rules, the_lemmas, parts)

pub simple_Factor : (x : Factor) → (factor_base x).simple ≡ ((operand_base (out-Factor x).operand).simple)
unfolding join_base operand_base select_item_base select_list_base tail_base added_base arm_base chain_base conjunction_base expr_base factor_base further_base multiplied_base negation_base predicate_base select_base sum_base term_base base_of
simple_Factor x = search (rules, the_lemmas, parts)

pub simple_Multiplied : (x : Multiplied) → (multiplied_base x).simple ≡ ((factor_base (out-Multiplied x).factor).simple)
unfolding join_base operand_base select_item_base select_list_base tail_base added_base arm_base chain_base conjunction_base expr_base factor_base further_base multiplied_base negation_base predicate_base select_base sum_base term_base base_of
simple_Multiplied x = search (rules, the_lemmas, parts)

pub simple_Negation : (x : Negation) → (negation_base x).simple ≡ ((predicate_base (out-Negation x).predicate).simple)
unfolding join_base operand_base select_item_base select_list_base tail_base added_base arm_base chain_base conjunction_base expr_base factor_base further_base multiplied_base negation_base predicate_base select_base sum_base term_base base_of
simple_Negation x = search (rules, the_lemmas, parts)

pub simple_Predicate : (x : Predicate) → (predicate_base x).simple ≡ ((sum_base (out-Predicate x).tested).simple && optional_simple (option_map tail_base (out-Predicate x).tail))
unfolding join_base operand_base select_item_base select_list_base tail_base added_base arm_base chain_base conjunction_base expr_base factor_base further_base multiplied_base negation_base predicate_base select_base sum_base term_base base_of
simple_Predicate x = search (rules, the_lemmas, parts)

pub simple_Sum : (x : Sum) → (sum_base x).simple ≡ ((term_base (out-Sum x).first).simple && all_simple (map added_base (out-Sum x).others))
unfolding join_base operand_base select_item_base select_list_base tail_base added_base arm_base chain_base conjunction_base expr_base factor_base further_base multiplied_base negation_base predicate_base select_base sum_base term_base base_of
simple_Sum x = search (rules, the_lemmas, parts)

pub simple_Term : (x : Term) → (term_base x).simple ≡ ((factor_base (out-Term x).first).simple && all_simple (map multiplied_base (out-Term x).others))
unfolding join_base operand_base select_item_base select_list_base tail_base added_base arm_base chain_base conjunction_base expr_base factor_base further_base multiplied_base negation_base predicate_base select_base sum_base term_base base_of
simple_Term x = search (rules, the_lemmas, parts)

pub ruleset simple = (simple_Operand_Literal, simple_Operand_Number, simple_Operand_True, simple_Operand_False, simple_Operand_Special, simple_Operand_Value, simple_Operand_Reference, simple_Operand_Call, simple_Operand_CountAll, simple_Operand_Aggregate, simple_Operand_Case, simple_Operand_Cast, simple_Operand_Exists, simple_Operand_Subquery, simple_Operand_Parenthesized, simple_Tail_Compare, simple_Tail_IsNull, simple_Tail_Between, simple_Tail_InQuery, simple_Tail_InList, simple_Tail_Like, simple_Added, simple_Arm, simple_Conjunction, simple_Expr, simple_Factor, simple_Multiplied, simple_Negation, simple_Predicate, simple_Sum, simple_Term)
