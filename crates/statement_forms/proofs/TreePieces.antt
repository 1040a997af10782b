-- The pieces of a tree, one equation for each alternative.
use Rattle.std.proofs.Common.{◌≡◌, ℕ, Bool, List, [], ◌∷◌, ◌++◌, Option, map, rules}
use Rattle.std.specs.Prelude.{option_map}
use Rattle.sql_names.specs.NameBytes.{NameBytes}
use Rattle.sql_names.specs.declared.column.ObjectName.{ObjectName}
use Rattle.sql_names.specs.declared.column.Reference.{Reference}
use Rattle.sql_names.specs.declared.column.TableReference.{TableReference}
use Rattle.sql_names.specs.declared.sort.Special.{Special}
use Rattle.sql_names.specs.declared.sort.SqlType.{SqlType}
use Rattle.sql_tree.specs.declared.expr.Additive.{Additive}
use Rattle.sql_tree.specs.declared.expr.Aggregate.{Aggregate}
use Rattle.sql_tree.specs.declared.expr.Comparison.{Comparison}
use Rattle.sql_tree.specs.declared.expr.Multiplicative.{Multiplicative}
use Rattle.sql_tree.specs.declared.expr.SetOperator.{SetOperator}
use Rattle.sql_tree.specs.declared.expr.Join.{Join, fold-Join}
use Rattle.sql_tree.specs.declared.expr.Operand.{Operand, fold-Operand}
use Rattle.sql_tree.specs.declared.expr.SelectItem.{SelectItem, fold-SelectItem}
use Rattle.sql_tree.specs.declared.expr.SelectList.{SelectList, fold-SelectList}
use Rattle.sql_tree.specs.declared.expr.Tail.{Tail, fold-Tail}
use Rattle.sql_tree.specs.declared.expr.Join.TheVariants as joins
use Rattle.sql_tree.specs.declared.expr.Operand.TheVariants as operands
use Rattle.sql_tree.specs.declared.expr.SelectItem.TheVariants as items
use Rattle.sql_tree.specs.declared.expr.SelectList.TheVariants as lists
use Rattle.sql_tree.specs.declared.expr.Tail.TheVariants as tails
use Rattle.sql_tree.specs.declared.expr.Added.{Added, roll-Added, fold-Added}
use Rattle.sql_tree.specs.declared.expr.Arm.{Arm, roll-Arm, fold-Arm}
use Rattle.sql_tree.specs.declared.expr.Chain.{Chain, roll-Chain, fold-Chain}
use Rattle.sql_tree.specs.declared.expr.Conjunction.{Conjunction, roll-Conjunction, fold-Conjunction}
use Rattle.sql_tree.specs.declared.expr.Expr.{Expr, roll-Expr, the_lemmas}
use Rattle.sql_tree.specs.declared.expr.Factor.{Factor, roll-Factor, fold-Factor}
use Rattle.sql_tree.specs.declared.expr.Further.{Further, roll-Further, fold-Further}
use Rattle.sql_tree.specs.declared.expr.Multiplied.{Multiplied, roll-Multiplied, fold-Multiplied}
use Rattle.sql_tree.specs.declared.expr.Negation.{Negation, roll-Negation, fold-Negation}
use Rattle.sql_tree.specs.declared.expr.Predicate.{Predicate, roll-Predicate, fold-Predicate}
use Rattle.sql_tree.specs.declared.expr.Query.{Query, roll-Query}
use Rattle.sql_tree.specs.declared.expr.Select.{Select, roll-Select, fold-Select}
use Rattle.sql_tree.specs.declared.expr.Sum.{Sum, roll-Sum, fold-Sum}
use Rattle.sql_tree.specs.declared.expr.Term.{Term, roll-Term, fold-Term}
use Rattle.cat_items.specs.Pieces.{Pieces, expr_pieces, query_pieces, all_pieces, optional_pieces, some_pieces, table_pieces, of_reference, of_group, of_object, of_name, of_star, of_literal, of_number, of_type, of_subquery, join_pieces_step, operand_pieces_step, select_item_pieces_step, select_list_pieces_step, tail_pieces_step, added_pieces_step, arm_pieces_step, chain_pieces_step, conjunction_pieces_step, expr_pieces_step, factor_pieces_step, further_pieces_step, multiplied_pieces_step, negation_pieces_step, predicate_pieces_step, query_pieces_step, select_pieces_step, sum_pieces_step, term_pieces_step}

pub join_pieces : Join → Pieces
join_pieces = fold-Join Pieces Pieces Pieces Pieces Pieces Pieces Pieces Pieces Pieces Pieces Pieces Pieces Pieces Pieces Pieces Pieces Pieces Pieces Pieces
    join_pieces_step operand_pieces_step select_item_pieces_step select_list_pieces_step tail_pieces_step added_pieces_step arm_pieces_step chain_pieces_step conjunction_pieces_step expr_pieces_step factor_pieces_step further_pieces_step multiplied_pieces_step negation_pieces_step predicate_pieces_step query_pieces_step select_pieces_step sum_pieces_step term_pieces_step

pub operand_pieces : Operand → Pieces
operand_pieces = fold-Operand Pieces Pieces Pieces Pieces Pieces Pieces Pieces Pieces Pieces Pieces Pieces Pieces Pieces Pieces Pieces Pieces Pieces Pieces Pieces
    join_pieces_step operand_pieces_step select_item_pieces_step select_list_pieces_step tail_pieces_step added_pieces_step arm_pieces_step chain_pieces_step conjunction_pieces_step expr_pieces_step factor_pieces_step further_pieces_step multiplied_pieces_step negation_pieces_step predicate_pieces_step query_pieces_step select_pieces_step sum_pieces_step term_pieces_step

pub select_item_pieces : SelectItem → Pieces
select_item_pieces = fold-SelectItem Pieces Pieces Pieces Pieces Pieces Pieces Pieces Pieces Pieces Pieces Pieces Pieces Pieces Pieces Pieces Pieces Pieces Pieces Pieces
    join_pieces_step operand_pieces_step select_item_pieces_step select_list_pieces_step tail_pieces_step added_pieces_step arm_pieces_step chain_pieces_step conjunction_pieces_step expr_pieces_step factor_pieces_step further_pieces_step multiplied_pieces_step negation_pieces_step predicate_pieces_step query_pieces_step select_pieces_step sum_pieces_step term_pieces_step

pub select_list_pieces : SelectList → Pieces
select_list_pieces = fold-SelectList Pieces Pieces Pieces Pieces Pieces Pieces Pieces Pieces Pieces Pieces Pieces Pieces Pieces Pieces Pieces Pieces Pieces Pieces Pieces
    join_pieces_step operand_pieces_step select_item_pieces_step select_list_pieces_step tail_pieces_step added_pieces_step arm_pieces_step chain_pieces_step conjunction_pieces_step expr_pieces_step factor_pieces_step further_pieces_step multiplied_pieces_step negation_pieces_step predicate_pieces_step query_pieces_step select_pieces_step sum_pieces_step term_pieces_step

pub tail_pieces : Tail → Pieces
tail_pieces = fold-Tail Pieces Pieces Pieces Pieces Pieces Pieces Pieces Pieces Pieces Pieces Pieces Pieces Pieces Pieces Pieces Pieces Pieces Pieces Pieces
    join_pieces_step operand_pieces_step select_item_pieces_step select_list_pieces_step tail_pieces_step added_pieces_step arm_pieces_step chain_pieces_step conjunction_pieces_step expr_pieces_step factor_pieces_step further_pieces_step multiplied_pieces_step negation_pieces_step predicate_pieces_step query_pieces_step select_pieces_step sum_pieces_step term_pieces_step

pub added_pieces : Added → Pieces
added_pieces = fold-Added Pieces Pieces Pieces Pieces Pieces Pieces Pieces Pieces Pieces Pieces Pieces Pieces Pieces Pieces Pieces Pieces Pieces Pieces Pieces
    join_pieces_step operand_pieces_step select_item_pieces_step select_list_pieces_step tail_pieces_step added_pieces_step arm_pieces_step chain_pieces_step conjunction_pieces_step expr_pieces_step factor_pieces_step further_pieces_step multiplied_pieces_step negation_pieces_step predicate_pieces_step query_pieces_step select_pieces_step sum_pieces_step term_pieces_step

pub arm_pieces : Arm → Pieces
arm_pieces = fold-Arm Pieces Pieces Pieces Pieces Pieces Pieces Pieces Pieces Pieces Pieces Pieces Pieces Pieces Pieces Pieces Pieces Pieces Pieces Pieces
    join_pieces_step operand_pieces_step select_item_pieces_step select_list_pieces_step tail_pieces_step added_pieces_step arm_pieces_step chain_pieces_step conjunction_pieces_step expr_pieces_step factor_pieces_step further_pieces_step multiplied_pieces_step negation_pieces_step predicate_pieces_step query_pieces_step select_pieces_step sum_pieces_step term_pieces_step

pub chain_pieces : Chain → Pieces
chain_pieces = fold-Chain Pieces Pieces Pieces Pieces Pieces Pieces Pieces Pieces Pieces Pieces Pieces Pieces Pieces Pieces Pieces Pieces Pieces Pieces Pieces
    join_pieces_step operand_pieces_step select_item_pieces_step select_list_pieces_step tail_pieces_step added_pieces_step arm_pieces_step chain_pieces_step conjunction_pieces_step expr_pieces_step factor_pieces_step further_pieces_step multiplied_pieces_step negation_pieces_step predicate_pieces_step query_pieces_step select_pieces_step sum_pieces_step term_pieces_step

pub conjunction_pieces : Conjunction → Pieces
conjunction_pieces = fold-Conjunction Pieces Pieces Pieces Pieces Pieces Pieces Pieces Pieces Pieces Pieces Pieces Pieces Pieces Pieces Pieces Pieces Pieces Pieces Pieces
    join_pieces_step operand_pieces_step select_item_pieces_step select_list_pieces_step tail_pieces_step added_pieces_step arm_pieces_step chain_pieces_step conjunction_pieces_step expr_pieces_step factor_pieces_step further_pieces_step multiplied_pieces_step negation_pieces_step predicate_pieces_step query_pieces_step select_pieces_step sum_pieces_step term_pieces_step

pub factor_pieces : Factor → Pieces
factor_pieces = fold-Factor Pieces Pieces Pieces Pieces Pieces Pieces Pieces Pieces Pieces Pieces Pieces Pieces Pieces Pieces Pieces Pieces Pieces Pieces Pieces
    join_pieces_step operand_pieces_step select_item_pieces_step select_list_pieces_step tail_pieces_step added_pieces_step arm_pieces_step chain_pieces_step conjunction_pieces_step expr_pieces_step factor_pieces_step further_pieces_step multiplied_pieces_step negation_pieces_step predicate_pieces_step query_pieces_step select_pieces_step sum_pieces_step term_pieces_step

pub further_pieces : Further → Pieces
further_pieces = fold-Further Pieces Pieces Pieces Pieces Pieces Pieces Pieces Pieces Pieces Pieces Pieces Pieces Pieces Pieces Pieces Pieces Pieces Pieces Pieces
    join_pieces_step operand_pieces_step select_item_pieces_step select_list_pieces_step tail_pieces_step added_pieces_step arm_pieces_step chain_pieces_step conjunction_pieces_step expr_pieces_step factor_pieces_step further_pieces_step multiplied_pieces_step negation_pieces_step predicate_pieces_step query_pieces_step select_pieces_step sum_pieces_step term_pieces_step

pub multiplied_pieces : Multiplied → Pieces
multiplied_pieces = fold-Multiplied Pieces Pieces Pieces Pieces Pieces Pieces Pieces Pieces Pieces Pieces Pieces Pieces Pieces Pieces Pieces Pieces Pieces Pieces Pieces
    join_pieces_step operand_pieces_step select_item_pieces_step select_list_pieces_step tail_pieces_step added_pieces_step arm_pieces_step chain_pieces_step conjunction_pieces_step expr_pieces_step factor_pieces_step further_pieces_step multiplied_pieces_step negation_pieces_step predicate_pieces_step query_pieces_step select_pieces_step sum_pieces_step term_pieces_step

pub negation_pieces : Negation → Pieces
negation_pieces = fold-Negation Pieces Pieces Pieces Pieces Pieces Pieces Pieces Pieces Pieces Pieces Pieces Pieces Pieces Pieces Pieces Pieces Pieces Pieces Pieces
    join_pieces_step operand_pieces_step select_item_pieces_step select_list_pieces_step tail_pieces_step added_pieces_step arm_pieces_step chain_pieces_step conjunction_pieces_step expr_pieces_step factor_pieces_step further_pieces_step multiplied_pieces_step negation_pieces_step predicate_pieces_step query_pieces_step select_pieces_step sum_pieces_step term_pieces_step

pub predicate_pieces : Predicate → Pieces
predicate_pieces = fold-Predicate Pieces Pieces Pieces Pieces Pieces Pieces Pieces Pieces Pieces Pieces Pieces Pieces Pieces Pieces Pieces Pieces Pieces Pieces Pieces
    join_pieces_step operand_pieces_step select_item_pieces_step select_list_pieces_step tail_pieces_step added_pieces_step arm_pieces_step chain_pieces_step conjunction_pieces_step expr_pieces_step factor_pieces_step further_pieces_step multiplied_pieces_step negation_pieces_step predicate_pieces_step query_pieces_step select_pieces_step sum_pieces_step term_pieces_step

pub select_pieces : Select → Pieces
select_pieces = fold-Select Pieces Pieces Pieces Pieces Pieces Pieces Pieces Pieces Pieces Pieces Pieces Pieces Pieces Pieces Pieces Pieces Pieces Pieces Pieces
    join_pieces_step operand_pieces_step select_item_pieces_step select_list_pieces_step tail_pieces_step added_pieces_step arm_pieces_step chain_pieces_step conjunction_pieces_step expr_pieces_step factor_pieces_step further_pieces_step multiplied_pieces_step negation_pieces_step predicate_pieces_step query_pieces_step select_pieces_step sum_pieces_step term_pieces_step

pub sum_pieces : Sum → Pieces
sum_pieces = fold-Sum Pieces Pieces Pieces Pieces Pieces Pieces Pieces Pieces Pieces Pieces Pieces Pieces Pieces Pieces Pieces Pieces Pieces Pieces Pieces
    join_pieces_step operand_pieces_step select_item_pieces_step select_list_pieces_step tail_pieces_step added_pieces_step arm_pieces_step chain_pieces_step conjunction_pieces_step expr_pieces_step factor_pieces_step further_pieces_step multiplied_pieces_step negation_pieces_step predicate_pieces_step query_pieces_step select_pieces_step sum_pieces_step term_pieces_step

pub term_pieces : Term → Pieces
term_pieces = fold-Term Pieces Pieces Pieces Pieces Pieces Pieces Pieces Pieces Pieces Pieces Pieces Pieces Pieces Pieces Pieces Pieces Pieces Pieces Pieces
    join_pieces_step operand_pieces_step select_item_pieces_step select_list_pieces_step tail_pieces_step added_pieces_step arm_pieces_step chain_pieces_step conjunction_pieces_step expr_pieces_step factor_pieces_step further_pieces_step multiplied_pieces_step negation_pieces_step predicate_pieces_step query_pieces_step select_pieces_step sum_pieces_step term_pieces_step

pub of_inner : (t : TableReference) (e : Expr) → join_pieces (joins.Inner t e) ≡ table_pieces t ++ expr_pieces e
unfolding join_pieces operand_pieces select_item_pieces select_list_pieces tail_pieces added_pieces arm_pieces chain_pieces conjunction_pieces expr_pieces factor_pieces further_pieces multiplied_pieces negation_pieces predicate_pieces query_pieces select_pieces sum_pieces term_pieces
of_inner t e = search (rules, the_lemmas)

pub of_cross : (t : TableReference) → join_pieces (joins.Cross t) ≡ table_pieces t
unfolding join_pieces operand_pieces select_item_pieces select_list_pieces tail_pieces added_pieces arm_pieces chain_pieces conjunction_pieces expr_pieces factor_pieces further_pieces multiplied_pieces negation_pieces predicate_pieces query_pieces select_pieces sum_pieces term_pieces
of_cross t = search (rules, the_lemmas)

pub of_literal_operand : (t : List ℕ) → operand_pieces (operands.Literal t) ≡ of_literal t ∷ []
unfolding join_pieces operand_pieces select_item_pieces select_list_pieces tail_pieces added_pieces arm_pieces chain_pieces conjunction_pieces expr_pieces factor_pieces further_pieces multiplied_pieces negation_pieces predicate_pieces query_pieces select_pieces sum_pieces term_pieces
of_literal_operand t = search (rules, the_lemmas)

pub of_number_operand : (t : List ℕ) → operand_pieces (operands.Number t) ≡ of_number t ∷ []
unfolding join_pieces operand_pieces select_item_pieces select_list_pieces tail_pieces added_pieces arm_pieces chain_pieces conjunction_pieces expr_pieces factor_pieces further_pieces multiplied_pieces negation_pieces predicate_pieces query_pieces select_pieces sum_pieces term_pieces
of_number_operand t = search (rules, the_lemmas)

pub of_true : operand_pieces operands.True ≡ []
unfolding join_pieces operand_pieces select_item_pieces select_list_pieces tail_pieces added_pieces arm_pieces chain_pieces conjunction_pieces expr_pieces factor_pieces further_pieces multiplied_pieces negation_pieces predicate_pieces query_pieces select_pieces sum_pieces term_pieces
of_true = search (rules, the_lemmas)

pub of_false : operand_pieces operands.False ≡ []
unfolding join_pieces operand_pieces select_item_pieces select_list_pieces tail_pieces added_pieces arm_pieces chain_pieces conjunction_pieces expr_pieces factor_pieces further_pieces multiplied_pieces negation_pieces predicate_pieces query_pieces select_pieces sum_pieces term_pieces
of_false = search (rules, the_lemmas)

pub of_special : (s : Special) → operand_pieces (operands.Special s) ≡ []
unfolding join_pieces operand_pieces select_item_pieces select_list_pieces tail_pieces added_pieces arm_pieces chain_pieces conjunction_pieces expr_pieces factor_pieces further_pieces multiplied_pieces negation_pieces predicate_pieces query_pieces select_pieces sum_pieces term_pieces
of_special s = search (rules, the_lemmas)

pub of_value : operand_pieces operands.Value ≡ []
unfolding join_pieces operand_pieces select_item_pieces select_list_pieces tail_pieces added_pieces arm_pieces chain_pieces conjunction_pieces expr_pieces factor_pieces further_pieces multiplied_pieces negation_pieces predicate_pieces query_pieces select_pieces sum_pieces term_pieces
of_value = search (rules, the_lemmas)

pub of_reference_operand : (r : Reference) → operand_pieces (operands.Reference r) ≡ of_reference r ∷ []
unfolding join_pieces operand_pieces select_item_pieces select_list_pieces tail_pieces added_pieces arm_pieces chain_pieces conjunction_pieces expr_pieces factor_pieces further_pieces multiplied_pieces negation_pieces predicate_pieces query_pieces select_pieces sum_pieces term_pieces
of_reference_operand r = search (rules, the_lemmas)

pub of_call : (f : ObjectName) (es : List Expr) → operand_pieces (operands.Call f es) ≡ of_object f ∷ all_pieces (map expr_pieces es)
unfolding join_pieces operand_pieces select_item_pieces select_list_pieces tail_pieces added_pieces arm_pieces chain_pieces conjunction_pieces expr_pieces factor_pieces further_pieces multiplied_pieces negation_pieces predicate_pieces query_pieces select_pieces sum_pieces term_pieces
of_call f es = search (rules, the_lemmas)

pub of_count_all : operand_pieces operands.CountAll ≡ []
unfolding join_pieces operand_pieces select_item_pieces select_list_pieces tail_pieces added_pieces arm_pieces chain_pieces conjunction_pieces expr_pieces factor_pieces further_pieces multiplied_pieces negation_pieces predicate_pieces query_pieces select_pieces sum_pieces term_pieces
of_count_all = search (rules, the_lemmas)

pub of_aggregate : (f : Aggregate) (e : Expr) → operand_pieces (operands.Aggregate f e) ≡ expr_pieces e
unfolding join_pieces operand_pieces select_item_pieces select_list_pieces tail_pieces added_pieces arm_pieces chain_pieces conjunction_pieces expr_pieces factor_pieces further_pieces multiplied_pieces negation_pieces predicate_pieces query_pieces select_pieces sum_pieces term_pieces
of_aggregate f e = search (rules, the_lemmas)

pub of_case : (arms : List Arm) (o : Option Expr) → operand_pieces (operands.Case arms o) ≡ some_pieces (map arm_pieces arms) ++ optional_pieces (option_map expr_pieces o)
unfolding join_pieces operand_pieces select_item_pieces select_list_pieces tail_pieces added_pieces arm_pieces chain_pieces conjunction_pieces expr_pieces factor_pieces further_pieces multiplied_pieces negation_pieces predicate_pieces query_pieces select_pieces sum_pieces term_pieces
of_case arms o = search (rules, the_lemmas)

pub of_cast : (o : Option Expr) (t : SqlType) → operand_pieces (operands.Cast o t) ≡ of_type t ∷ optional_pieces (option_map expr_pieces o)
unfolding join_pieces operand_pieces select_item_pieces select_list_pieces tail_pieces added_pieces arm_pieces chain_pieces conjunction_pieces expr_pieces factor_pieces further_pieces multiplied_pieces negation_pieces predicate_pieces query_pieces select_pieces sum_pieces term_pieces
of_cast o t = search (rules, the_lemmas)

pub of_exists : (q : Query) → operand_pieces (operands.Exists q) ≡ of_subquery ∷ query_pieces q
unfolding join_pieces operand_pieces select_item_pieces select_list_pieces tail_pieces added_pieces arm_pieces chain_pieces conjunction_pieces expr_pieces factor_pieces further_pieces multiplied_pieces negation_pieces predicate_pieces query_pieces select_pieces sum_pieces term_pieces
of_exists q = search (rules, the_lemmas)

pub of_subquery_operand : (q : Query) → operand_pieces (operands.Subquery q) ≡ of_subquery ∷ query_pieces q
unfolding join_pieces operand_pieces select_item_pieces select_list_pieces tail_pieces added_pieces arm_pieces chain_pieces conjunction_pieces expr_pieces factor_pieces further_pieces multiplied_pieces negation_pieces predicate_pieces query_pieces select_pieces sum_pieces term_pieces
of_subquery_operand q = search (rules, the_lemmas)

pub of_parenthesized : (e : Expr) → operand_pieces (operands.Parenthesized e) ≡ expr_pieces e
unfolding join_pieces operand_pieces select_item_pieces select_list_pieces tail_pieces added_pieces arm_pieces chain_pieces conjunction_pieces expr_pieces factor_pieces further_pieces multiplied_pieces negation_pieces predicate_pieces query_pieces select_pieces sum_pieces term_pieces
of_parenthesized e = search (rules, the_lemmas)

pub of_item : (e : Expr) (n : Option NameBytes) → select_item_pieces (items.Expr e n) ≡ of_name n ∷ expr_pieces e
unfolding join_pieces operand_pieces select_item_pieces select_list_pieces tail_pieces added_pieces arm_pieces chain_pieces conjunction_pieces expr_pieces factor_pieces further_pieces multiplied_pieces negation_pieces predicate_pieces query_pieces select_pieces sum_pieces term_pieces
of_item e n = search (rules, the_lemmas)

pub of_table_star : (q : NameBytes) → select_item_pieces (items.QualifiedStar q) ≡ of_star ∷ []
unfolding join_pieces operand_pieces select_item_pieces select_list_pieces tail_pieces added_pieces arm_pieces chain_pieces conjunction_pieces expr_pieces factor_pieces further_pieces multiplied_pieces negation_pieces predicate_pieces query_pieces select_pieces sum_pieces term_pieces
of_table_star q = search (rules, the_lemmas)

pub of_whole_star : select_list_pieces lists.Star ≡ of_star ∷ []
unfolding join_pieces operand_pieces select_item_pieces select_list_pieces tail_pieces added_pieces arm_pieces chain_pieces conjunction_pieces expr_pieces factor_pieces further_pieces multiplied_pieces negation_pieces predicate_pieces query_pieces select_pieces sum_pieces term_pieces
of_whole_star = search (rules, the_lemmas)

pub of_listed : (xs : List SelectItem) → select_list_pieces (lists.Listed xs) ≡ some_pieces (map select_item_pieces xs)
unfolding join_pieces operand_pieces select_item_pieces select_list_pieces tail_pieces added_pieces arm_pieces chain_pieces conjunction_pieces expr_pieces factor_pieces further_pieces multiplied_pieces negation_pieces predicate_pieces query_pieces select_pieces sum_pieces term_pieces
of_listed xs = search (rules, the_lemmas)

pub of_compare : (c : Comparison) (s : Sum) → tail_pieces (tails.Compare c s) ≡ sum_pieces s
unfolding join_pieces operand_pieces select_item_pieces select_list_pieces tail_pieces added_pieces arm_pieces chain_pieces conjunction_pieces expr_pieces factor_pieces further_pieces multiplied_pieces negation_pieces predicate_pieces query_pieces select_pieces sum_pieces term_pieces
of_compare c s = search (rules, the_lemmas)

pub of_is_null : (b : Bool) → tail_pieces (tails.IsNull b) ≡ []
unfolding join_pieces operand_pieces select_item_pieces select_list_pieces tail_pieces added_pieces arm_pieces chain_pieces conjunction_pieces expr_pieces factor_pieces further_pieces multiplied_pieces negation_pieces predicate_pieces query_pieces select_pieces sum_pieces term_pieces
of_is_null b = search (rules, the_lemmas)

pub of_between : (b : Bool) (low high : Sum) → tail_pieces (tails.Between b low high) ≡ sum_pieces low ++ sum_pieces high
unfolding join_pieces operand_pieces select_item_pieces select_list_pieces tail_pieces added_pieces arm_pieces chain_pieces conjunction_pieces expr_pieces factor_pieces further_pieces multiplied_pieces negation_pieces predicate_pieces query_pieces select_pieces sum_pieces term_pieces
of_between b low high = search (rules, the_lemmas)

pub of_in_query : (b : Bool) (q : Query) → tail_pieces (tails.InQuery b q) ≡ of_subquery ∷ query_pieces q
unfolding join_pieces operand_pieces select_item_pieces select_list_pieces tail_pieces added_pieces arm_pieces chain_pieces conjunction_pieces expr_pieces factor_pieces further_pieces multiplied_pieces negation_pieces predicate_pieces query_pieces select_pieces sum_pieces term_pieces
of_in_query b q = search (rules, the_lemmas)

pub of_in_list : (b : Bool) (es : List Expr) → tail_pieces (tails.InList b es) ≡ some_pieces (map expr_pieces es)
unfolding join_pieces operand_pieces select_item_pieces select_list_pieces tail_pieces added_pieces arm_pieces chain_pieces conjunction_pieces expr_pieces factor_pieces further_pieces multiplied_pieces negation_pieces predicate_pieces query_pieces select_pieces sum_pieces term_pieces
of_in_list b es = search (rules, the_lemmas)

pub of_like : (b : Bool) (s : Sum) → tail_pieces (tails.Like b s) ≡ sum_pieces s
unfolding join_pieces operand_pieces select_item_pieces select_list_pieces tail_pieces added_pieces arm_pieces chain_pieces conjunction_pieces expr_pieces factor_pieces further_pieces multiplied_pieces negation_pieces predicate_pieces query_pieces select_pieces sum_pieces term_pieces
of_like b s = search (rules, the_lemmas)

pub of_added : (a : Additive) (t : Term) → added_pieces (roll-Added (record { by = a; term = t })) ≡ term_pieces t
unfolding join_pieces operand_pieces select_item_pieces select_list_pieces tail_pieces added_pieces arm_pieces chain_pieces conjunction_pieces expr_pieces factor_pieces further_pieces multiplied_pieces negation_pieces predicate_pieces query_pieces select_pieces sum_pieces term_pieces
of_added a t = search (rules, the_lemmas)

pub of_arm : (c v : Expr) → arm_pieces (roll-Arm (record { condition = c; value = v })) ≡ expr_pieces c ++ expr_pieces v
unfolding join_pieces operand_pieces select_item_pieces select_list_pieces tail_pieces added_pieces arm_pieces chain_pieces conjunction_pieces expr_pieces factor_pieces further_pieces multiplied_pieces negation_pieces predicate_pieces query_pieces select_pieces sum_pieces term_pieces
of_arm c v = search (rules, the_lemmas)

pub of_chain : (t : TableReference) (js : List Join) → chain_pieces (roll-Chain (record { first = t; joins = js })) ≡ table_pieces t ++ all_pieces (map join_pieces js)
unfolding join_pieces operand_pieces select_item_pieces select_list_pieces tail_pieces added_pieces arm_pieces chain_pieces conjunction_pieces expr_pieces factor_pieces further_pieces multiplied_pieces negation_pieces predicate_pieces query_pieces select_pieces sum_pieces term_pieces
of_chain t js = search (rules, the_lemmas)

pub of_conjunction : (xs : List Negation) → conjunction_pieces (roll-Conjunction (record { every = xs })) ≡ some_pieces (map negation_pieces xs)
unfolding join_pieces operand_pieces select_item_pieces select_list_pieces tail_pieces added_pieces arm_pieces chain_pieces conjunction_pieces expr_pieces factor_pieces further_pieces multiplied_pieces negation_pieces predicate_pieces query_pieces select_pieces sum_pieces term_pieces
of_conjunction xs = search (rules, the_lemmas)

pub of_expr : (xs : List Conjunction) → expr_pieces (roll-Expr (record { any = xs })) ≡ some_pieces (map conjunction_pieces xs)
unfolding join_pieces operand_pieces select_item_pieces select_list_pieces tail_pieces added_pieces arm_pieces chain_pieces conjunction_pieces expr_pieces factor_pieces further_pieces multiplied_pieces negation_pieces predicate_pieces query_pieces select_pieces sum_pieces term_pieces
of_expr xs = search (rules, the_lemmas)

pub of_factor : (m : Bool) (o : Operand) → factor_pieces (roll-Factor (record { minus = m; operand = o })) ≡ operand_pieces o
unfolding join_pieces operand_pieces select_item_pieces select_list_pieces tail_pieces added_pieces arm_pieces chain_pieces conjunction_pieces expr_pieces factor_pieces further_pieces multiplied_pieces negation_pieces predicate_pieces query_pieces select_pieces sum_pieces term_pieces
of_factor m o = search (rules, the_lemmas)

pub of_further : (o : SetOperator) (a : Bool) (s : Select) → further_pieces (roll-Further (record { by = o; all = a; select = s })) ≡ select_pieces s
unfolding join_pieces operand_pieces select_item_pieces select_list_pieces tail_pieces added_pieces arm_pieces chain_pieces conjunction_pieces expr_pieces factor_pieces further_pieces multiplied_pieces negation_pieces predicate_pieces query_pieces select_pieces sum_pieces term_pieces
of_further o a s = search (rules, the_lemmas)

pub of_multiplied : (m : Multiplicative) (f : Factor) → multiplied_pieces (roll-Multiplied (record { by = m; factor = f })) ≡ factor_pieces f
unfolding join_pieces operand_pieces select_item_pieces select_list_pieces tail_pieces added_pieces arm_pieces chain_pieces conjunction_pieces expr_pieces factor_pieces further_pieces multiplied_pieces negation_pieces predicate_pieces query_pieces select_pieces sum_pieces term_pieces
of_multiplied m f = search (rules, the_lemmas)

pub of_negation : (n : Bool) (p : Predicate) → negation_pieces (roll-Negation (record { negated = n; predicate = p })) ≡ predicate_pieces p
unfolding join_pieces operand_pieces select_item_pieces select_list_pieces tail_pieces added_pieces arm_pieces chain_pieces conjunction_pieces expr_pieces factor_pieces further_pieces multiplied_pieces negation_pieces predicate_pieces query_pieces select_pieces sum_pieces term_pieces
of_negation n p = search (rules, the_lemmas)

pub of_predicate : (s : Sum) (t : Option Tail) → predicate_pieces (roll-Predicate (record { tested = s; tail = t })) ≡ sum_pieces s ++ optional_pieces (option_map tail_pieces t)
unfolding join_pieces operand_pieces select_item_pieces select_list_pieces tail_pieces added_pieces arm_pieces chain_pieces conjunction_pieces expr_pieces factor_pieces further_pieces multiplied_pieces negation_pieces predicate_pieces query_pieces select_pieces sum_pieces term_pieces
of_predicate s t = search (rules, the_lemmas)

pub of_query : (s : Select) (fs : List Further) → query_pieces (roll-Query (record { first = s; others = fs })) ≡ select_pieces s ++ all_pieces (map further_pieces fs)
unfolding join_pieces operand_pieces select_item_pieces select_list_pieces tail_pieces added_pieces arm_pieces chain_pieces conjunction_pieces expr_pieces factor_pieces further_pieces multiplied_pieces negation_pieces predicate_pieces query_pieces select_pieces sum_pieces term_pieces
of_query s fs = search (rules, the_lemmas)

pub of_select : (d : Bool) (l : SelectList) (cs : List Chain) (w : Option Expr) (rs : List Reference) → select_pieces (roll-Select (record { distinct = d; list = l; from = cs; filter = w; group_by = rs })) ≡ select_list_pieces l ++ some_pieces (map chain_pieces cs) ++ optional_pieces (option_map expr_pieces w) ++ map of_group rs
unfolding join_pieces operand_pieces select_item_pieces select_list_pieces tail_pieces added_pieces arm_pieces chain_pieces conjunction_pieces expr_pieces factor_pieces further_pieces multiplied_pieces negation_pieces predicate_pieces query_pieces select_pieces sum_pieces term_pieces
of_select d l cs w rs = search (rules, the_lemmas)

pub of_sum : (t : Term) (others : List Added) → sum_pieces (roll-Sum (record { first = t; others = others })) ≡ term_pieces t ++ all_pieces (map added_pieces others)
unfolding join_pieces operand_pieces select_item_pieces select_list_pieces tail_pieces added_pieces arm_pieces chain_pieces conjunction_pieces expr_pieces factor_pieces further_pieces multiplied_pieces negation_pieces predicate_pieces query_pieces select_pieces sum_pieces term_pieces
of_sum t others = search (rules, the_lemmas)

pub of_term : (f : Factor) (others : List Multiplied) → term_pieces (roll-Term (record { first = f; others = others })) ≡ factor_pieces f ++ all_pieces (map multiplied_pieces others)
unfolding join_pieces operand_pieces select_item_pieces select_list_pieces tail_pieces added_pieces arm_pieces chain_pieces conjunction_pieces expr_pieces factor_pieces further_pieces multiplied_pieces negation_pieces predicate_pieces query_pieces select_pieces sum_pieces term_pieces
of_term f others = search (rules, the_lemmas)
