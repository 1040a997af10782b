-- The pieces of a tree, one equation for each alternative.
use Rattle.std.proofs.Common.{◌≡◌, ℕ, Bool, List, [], ◌∷◌, ◌++◌, Option, map, rules}
use Rattle.std.specs.Prelude.{option_map}
use Rattle.sql_tree.specs.declared.expr.Join.{Join, roll-Join}
use Rattle.sql_tree.specs.declared.expr.Join.TheVariants as joins
use Rattle.sql_tree.specs.declared.expr.Operand.{Operand, roll-Operand}
use Rattle.sql_tree.specs.declared.expr.Operand.TheVariants as operands
use Rattle.sql_tree.specs.declared.expr.SelectItem.{SelectItem, roll-SelectItem}
use Rattle.sql_tree.specs.declared.expr.SelectItem.TheVariants as items
use Rattle.sql_tree.specs.declared.expr.SelectList.{SelectList, roll-SelectList}
use Rattle.sql_tree.specs.declared.expr.SelectList.TheVariants as lists
use Rattle.sql_tree.specs.declared.expr.Tail.{Tail, roll-Tail}
use Rattle.sql_tree.specs.declared.expr.Tail.TheVariants as tails
use Rattle.sql_tree.specs.declared.expr.Added.{Added, roll-Added}
use Rattle.sql_tree.specs.declared.expr.Arm.{Arm, roll-Arm}
use Rattle.sql_tree.specs.declared.expr.Chain.{Chain, roll-Chain}
use Rattle.sql_tree.specs.declared.expr.Conjunction.{Conjunction, roll-Conjunction}
use Rattle.sql_tree.specs.declared.expr.Expr.{Expr, roll-Expr, the_lemmas}
use Rattle.sql_tree.specs.declared.expr.Factor.{Factor, roll-Factor}
use Rattle.sql_tree.specs.declared.expr.Further.{Further, roll-Further}
use Rattle.sql_tree.specs.declared.expr.Multiplied.{Multiplied, roll-Multiplied}
use Rattle.sql_tree.specs.declared.expr.Negation.{Negation, roll-Negation}
use Rattle.sql_tree.specs.declared.expr.Predicate.{Predicate, roll-Predicate}
use Rattle.sql_tree.specs.declared.expr.Query.{Query, roll-Query}
use Rattle.sql_tree.specs.declared.expr.Select.{Select, roll-Select}
use Rattle.sql_tree.specs.declared.expr.Sum.{Sum, roll-Sum}
use Rattle.sql_tree.specs.declared.expr.Term.{Term, roll-Term}
use Rattle.sql_tree.specs.declared.expr.Join.TheOpen.{Join-F, Operand-F, SelectItem-F, SelectList-F, Tail-F}
use Rattle.sql_tree.specs.declared.expr.Comparison.{Comparison}
use Rattle.sql_tree.specs.declared.expr.Aggregate.{Aggregate}
use Rattle.sql_tree.specs.declared.expr.Additive.{Additive}
use Rattle.sql_tree.specs.declared.expr.Multiplicative.{Multiplicative}
use Rattle.sql_tree.specs.declared.expr.SetOperator.{SetOperator}
use Rattle.sql_names.specs.declared.sort.SqlType.{SqlType}
use Rattle.sql_names.specs.declared.sort.Special.{Special}
use Rattle.sql_names.specs.declared.column.Reference.{Reference}
use Rattle.sql_names.specs.declared.column.ObjectName.{ObjectName}
use Rattle.sql_names.specs.declared.column.TableReference.{TableReference}
use Rattle.sql_names.specs.NameBytes.{NameBytes}
use Rattle.cat_items.specs.Pieces.{of_reference, of_group, of_object, of_name, of_star, of_literal, of_number, of_type, of_subquery, all_pieces, some_pieces, optional_pieces, table_pieces, expr_pieces, query_pieces}
use Rattle.resolved_trees.specs.TreePieces.{join_pieces, operand_pieces, select_item_pieces, select_list_pieces, tail_pieces, added_pieces, arm_pieces, chain_pieces, conjunction_pieces, factor_pieces, further_pieces, multiplied_pieces, negation_pieces, predicate_pieces, select_pieces, sum_pieces, term_pieces}

pub pieces_Join_Inner : (table' : TableReference) (on' : Expr) → join_pieces (roll-Join (Join-F.Inner table' on')) ≡ table_pieces table' ++ expr_pieces on'
unfolding join_pieces operand_pieces select_item_pieces select_list_pieces tail_pieces added_pieces arm_pieces chain_pieces conjunction_pieces expr_pieces factor_pieces further_pieces multiplied_pieces negation_pieces predicate_pieces query_pieces select_pieces sum_pieces term_pieces
pieces_Join_Inner table' on' = search (rules, the_lemmas)

pub pieces_of_Join_Inner : (table' : TableReference) (on' : Expr) → join_pieces (joins.Inner table' on') ≡ table_pieces table' ++ expr_pieces on'
unfolding join_pieces operand_pieces select_item_pieces select_list_pieces tail_pieces added_pieces arm_pieces chain_pieces conjunction_pieces expr_pieces factor_pieces further_pieces multiplied_pieces negation_pieces predicate_pieces query_pieces select_pieces sum_pieces term_pieces
pieces_of_Join_Inner table' on' = search (rules, the_lemmas)

pub pieces_Join_Cross : (table' : TableReference) → join_pieces (roll-Join (Join-F.Cross table')) ≡ table_pieces table'
unfolding join_pieces operand_pieces select_item_pieces select_list_pieces tail_pieces added_pieces arm_pieces chain_pieces conjunction_pieces expr_pieces factor_pieces further_pieces multiplied_pieces negation_pieces predicate_pieces query_pieces select_pieces sum_pieces term_pieces
pieces_Join_Cross table' = search (rules, the_lemmas)

pub pieces_of_Join_Cross : (table' : TableReference) → join_pieces (joins.Cross table') ≡ table_pieces table'
unfolding join_pieces operand_pieces select_item_pieces select_list_pieces tail_pieces added_pieces arm_pieces chain_pieces conjunction_pieces expr_pieces factor_pieces further_pieces multiplied_pieces negation_pieces predicate_pieces query_pieces select_pieces sum_pieces term_pieces
pieces_of_Join_Cross table' = search (rules, the_lemmas)

pub pieces_Operand_Literal : (text' : List ℕ) → operand_pieces (roll-Operand (Operand-F.Literal text')) ≡ of_literal text' ∷ []
unfolding join_pieces operand_pieces select_item_pieces select_list_pieces tail_pieces added_pieces arm_pieces chain_pieces conjunction_pieces expr_pieces factor_pieces further_pieces multiplied_pieces negation_pieces predicate_pieces query_pieces select_pieces sum_pieces term_pieces
pieces_Operand_Literal text' = search (rules, the_lemmas)

pub pieces_of_Operand_Literal : (text' : List ℕ) → operand_pieces (operands.Literal text') ≡ of_literal text' ∷ []
unfolding join_pieces operand_pieces select_item_pieces select_list_pieces tail_pieces added_pieces arm_pieces chain_pieces conjunction_pieces expr_pieces factor_pieces further_pieces multiplied_pieces negation_pieces predicate_pieces query_pieces select_pieces sum_pieces term_pieces
pieces_of_Operand_Literal text' = search (rules, the_lemmas)

pub pieces_Operand_Number : (text' : List ℕ) → operand_pieces (roll-Operand (Operand-F.Number text')) ≡ of_number text' ∷ []
unfolding join_pieces operand_pieces select_item_pieces select_list_pieces tail_pieces added_pieces arm_pieces chain_pieces conjunction_pieces expr_pieces factor_pieces further_pieces multiplied_pieces negation_pieces predicate_pieces query_pieces select_pieces sum_pieces term_pieces
pieces_Operand_Number text' = search (rules, the_lemmas)

pub pieces_of_Operand_Number : (text' : List ℕ) → operand_pieces (operands.Number text') ≡ of_number text' ∷ []
unfolding join_pieces operand_pieces select_item_pieces select_list_pieces tail_pieces added_pieces arm_pieces chain_pieces conjunction_pieces expr_pieces factor_pieces further_pieces multiplied_pieces negation_pieces predicate_pieces query_pieces select_pieces sum_pieces term_pieces
pieces_of_Operand_Number text' = search (rules, the_lemmas)

pub pieces_Operand_True : operand_pieces (roll-Operand Operand-F.True) ≡ []
unfolding join_pieces operand_pieces select_item_pieces select_list_pieces tail_pieces added_pieces arm_pieces chain_pieces conjunction_pieces expr_pieces factor_pieces further_pieces multiplied_pieces negation_pieces predicate_pieces query_pieces select_pieces sum_pieces term_pieces
pieces_Operand_True = search (rules, the_lemmas)

pub pieces_of_Operand_True : operand_pieces operands.True ≡ []
unfolding join_pieces operand_pieces select_item_pieces select_list_pieces tail_pieces added_pieces arm_pieces chain_pieces conjunction_pieces expr_pieces factor_pieces further_pieces multiplied_pieces negation_pieces predicate_pieces query_pieces select_pieces sum_pieces term_pieces
pieces_of_Operand_True = search (rules, the_lemmas)

pub pieces_Operand_False : operand_pieces (roll-Operand Operand-F.False) ≡ []
unfolding join_pieces operand_pieces select_item_pieces select_list_pieces tail_pieces added_pieces arm_pieces chain_pieces conjunction_pieces expr_pieces factor_pieces further_pieces multiplied_pieces negation_pieces predicate_pieces query_pieces select_pieces sum_pieces term_pieces
pieces_Operand_False = search (rules, the_lemmas)

pub pieces_of_Operand_False : operand_pieces operands.False ≡ []
unfolding join_pieces operand_pieces select_item_pieces select_list_pieces tail_pieces added_pieces arm_pieces chain_pieces conjunction_pieces expr_pieces factor_pieces further_pieces multiplied_pieces negation_pieces predicate_pieces query_pieces select_pieces sum_pieces term_pieces
pieces_of_Operand_False = search (rules, the_lemmas)

pub pieces_Operand_Special : (special' : Special) → operand_pieces (roll-Operand (Operand-F.Special special')) ≡ []
unfolding join_pieces operand_pieces select_item_pieces select_list_pieces tail_pieces added_pieces arm_pieces chain_pieces conjunction_pieces expr_pieces factor_pieces further_pieces multiplied_pieces negation_pieces predicate_pieces query_pieces select_pieces sum_pieces term_pieces
pieces_Operand_Special special' = search (rules, the_lemmas)

pub pieces_of_Operand_Special : (special' : Special) → operand_pieces (operands.Special special') ≡ []
unfolding join_pieces operand_pieces select_item_pieces select_list_pieces tail_pieces added_pieces arm_pieces chain_pieces conjunction_pieces expr_pieces factor_pieces further_pieces multiplied_pieces negation_pieces predicate_pieces query_pieces select_pieces sum_pieces term_pieces
pieces_of_Operand_Special special' = search (rules, the_lemmas)

pub pieces_Operand_Value : operand_pieces (roll-Operand Operand-F.Value) ≡ []
unfolding join_pieces operand_pieces select_item_pieces select_list_pieces tail_pieces added_pieces arm_pieces chain_pieces conjunction_pieces expr_pieces factor_pieces further_pieces multiplied_pieces negation_pieces predicate_pieces query_pieces select_pieces sum_pieces term_pieces
pieces_Operand_Value = search (rules, the_lemmas)

pub pieces_of_Operand_Value : operand_pieces operands.Value ≡ []
unfolding join_pieces operand_pieces select_item_pieces select_list_pieces tail_pieces added_pieces arm_pieces chain_pieces conjunction_pieces expr_pieces factor_pieces further_pieces multiplied_pieces negation_pieces predicate_pieces query_pieces select_pieces sum_pieces term_pieces
pieces_of_Operand_Value = search (rules, the_lemmas)

pub pieces_Operand_Reference : (r' : Reference) → operand_pieces (roll-Operand (Operand-F.Reference r')) ≡ of_reference r' ∷ []
unfolding join_pieces operand_pieces select_item_pieces select_list_pieces tail_pieces added_pieces arm_pieces chain_pieces conjunction_pieces expr_pieces factor_pieces further_pieces multiplied_pieces negation_pieces predicate_pieces query_pieces select_pieces sum_pieces term_pieces
pieces_Operand_Reference r' = search (rules, the_lemmas)

pub pieces_of_Operand_Reference : (r' : Reference) → operand_pieces (operands.Reference r') ≡ of_reference r' ∷ []
unfolding join_pieces operand_pieces select_item_pieces select_list_pieces tail_pieces added_pieces arm_pieces chain_pieces conjunction_pieces expr_pieces factor_pieces further_pieces multiplied_pieces negation_pieces predicate_pieces query_pieces select_pieces sum_pieces term_pieces
pieces_of_Operand_Reference r' = search (rules, the_lemmas)

pub pieces_Operand_Call : (f' : ObjectName) (es' : List Expr) → operand_pieces (roll-Operand (Operand-F.Call f' es')) ≡ of_object f' ∷ all_pieces (map expr_pieces es')
unfolding join_pieces operand_pieces select_item_pieces select_list_pieces tail_pieces added_pieces arm_pieces chain_pieces conjunction_pieces expr_pieces factor_pieces further_pieces multiplied_pieces negation_pieces predicate_pieces query_pieces select_pieces sum_pieces term_pieces
pieces_Operand_Call f' es' = search (rules, the_lemmas)

pub pieces_of_Operand_Call : (f' : ObjectName) (es' : List Expr) → operand_pieces (operands.Call f' es') ≡ of_object f' ∷ all_pieces (map expr_pieces es')
unfolding join_pieces operand_pieces select_item_pieces select_list_pieces tail_pieces added_pieces arm_pieces chain_pieces conjunction_pieces expr_pieces factor_pieces further_pieces multiplied_pieces negation_pieces predicate_pieces query_pieces select_pieces sum_pieces term_pieces
pieces_of_Operand_Call f' es' = search (rules, the_lemmas)

pub pieces_Operand_CountAll : operand_pieces (roll-Operand Operand-F.CountAll) ≡ []
unfolding join_pieces operand_pieces select_item_pieces select_list_pieces tail_pieces added_pieces arm_pieces chain_pieces conjunction_pieces expr_pieces factor_pieces further_pieces multiplied_pieces negation_pieces predicate_pieces query_pieces select_pieces sum_pieces term_pieces
pieces_Operand_CountAll = search (rules, the_lemmas)

pub pieces_of_Operand_CountAll : operand_pieces operands.CountAll ≡ []
unfolding join_pieces operand_pieces select_item_pieces select_list_pieces tail_pieces added_pieces arm_pieces chain_pieces conjunction_pieces expr_pieces factor_pieces further_pieces multiplied_pieces negation_pieces predicate_pieces query_pieces select_pieces sum_pieces term_pieces
pieces_of_Operand_CountAll = search (rules, the_lemmas)

pub pieces_Operand_Aggregate : (by' : Aggregate) (e' : Expr) → operand_pieces (roll-Operand (Operand-F.Aggregate by' e')) ≡ expr_pieces e'
unfolding join_pieces operand_pieces select_item_pieces select_list_pieces tail_pieces added_pieces arm_pieces chain_pieces conjunction_pieces expr_pieces factor_pieces further_pieces multiplied_pieces negation_pieces predicate_pieces query_pieces select_pieces sum_pieces term_pieces
pieces_Operand_Aggregate by' e' = search (rules, the_lemmas)

pub pieces_of_Operand_Aggregate : (by' : Aggregate) (e' : Expr) → operand_pieces (operands.Aggregate by' e') ≡ expr_pieces e'
unfolding join_pieces operand_pieces select_item_pieces select_list_pieces tail_pieces added_pieces arm_pieces chain_pieces conjunction_pieces expr_pieces factor_pieces further_pieces multiplied_pieces negation_pieces predicate_pieces query_pieces select_pieces sum_pieces term_pieces
pieces_of_Operand_Aggregate by' e' = search (rules, the_lemmas)

pub pieces_Operand_Case : (arms' : List Arm) (e' : Option Expr) → operand_pieces (roll-Operand (Operand-F.Case arms' e')) ≡ some_pieces (map arm_pieces arms') ++ optional_pieces (option_map expr_pieces e')
unfolding join_pieces operand_pieces select_item_pieces select_list_pieces tail_pieces added_pieces arm_pieces chain_pieces conjunction_pieces expr_pieces factor_pieces further_pieces multiplied_pieces negation_pieces predicate_pieces query_pieces select_pieces sum_pieces term_pieces
pieces_Operand_Case arms' e' = search (rules, the_lemmas)

pub pieces_of_Operand_Case : (arms' : List Arm) (e' : Option Expr) → operand_pieces (operands.Case arms' e') ≡ some_pieces (map arm_pieces arms') ++ optional_pieces (option_map expr_pieces e')
unfolding join_pieces operand_pieces select_item_pieces select_list_pieces tail_pieces added_pieces arm_pieces chain_pieces conjunction_pieces expr_pieces factor_pieces further_pieces multiplied_pieces negation_pieces predicate_pieces query_pieces select_pieces sum_pieces term_pieces
pieces_of_Operand_Case arms' e' = search (rules, the_lemmas)

pub pieces_Operand_Cast : (e' : Option Expr) (sort' : SqlType) → operand_pieces (roll-Operand (Operand-F.Cast e' sort')) ≡ of_type sort' ∷ optional_pieces (option_map expr_pieces e')
unfolding join_pieces operand_pieces select_item_pieces select_list_pieces tail_pieces added_pieces arm_pieces chain_pieces conjunction_pieces expr_pieces factor_pieces further_pieces multiplied_pieces negation_pieces predicate_pieces query_pieces select_pieces sum_pieces term_pieces
pieces_Operand_Cast e' sort' = search (rules, the_lemmas)

pub pieces_of_Operand_Cast : (e' : Option Expr) (sort' : SqlType) → operand_pieces (operands.Cast e' sort') ≡ of_type sort' ∷ optional_pieces (option_map expr_pieces e')
unfolding join_pieces operand_pieces select_item_pieces select_list_pieces tail_pieces added_pieces arm_pieces chain_pieces conjunction_pieces expr_pieces factor_pieces further_pieces multiplied_pieces negation_pieces predicate_pieces query_pieces select_pieces sum_pieces term_pieces
pieces_of_Operand_Cast e' sort' = search (rules, the_lemmas)

pub pieces_Operand_Exists : (q' : Query) → operand_pieces (roll-Operand (Operand-F.Exists q')) ≡ of_subquery ∷ query_pieces q'
unfolding join_pieces operand_pieces select_item_pieces select_list_pieces tail_pieces added_pieces arm_pieces chain_pieces conjunction_pieces expr_pieces factor_pieces further_pieces multiplied_pieces negation_pieces predicate_pieces query_pieces select_pieces sum_pieces term_pieces
pieces_Operand_Exists q' = search (rules, the_lemmas)

pub pieces_of_Operand_Exists : (q' : Query) → operand_pieces (operands.Exists q') ≡ of_subquery ∷ query_pieces q'
unfolding join_pieces operand_pieces select_item_pieces select_list_pieces tail_pieces added_pieces arm_pieces chain_pieces conjunction_pieces expr_pieces factor_pieces further_pieces multiplied_pieces negation_pieces predicate_pieces query_pieces select_pieces sum_pieces term_pieces
pieces_of_Operand_Exists q' = search (rules, the_lemmas)

pub pieces_Operand_Subquery : (q' : Query) → operand_pieces (roll-Operand (Operand-F.Subquery q')) ≡ of_subquery ∷ query_pieces q'
unfolding join_pieces operand_pieces select_item_pieces select_list_pieces tail_pieces added_pieces arm_pieces chain_pieces conjunction_pieces expr_pieces factor_pieces further_pieces multiplied_pieces negation_pieces predicate_pieces query_pieces select_pieces sum_pieces term_pieces
pieces_Operand_Subquery q' = search (rules, the_lemmas)

pub pieces_of_Operand_Subquery : (q' : Query) → operand_pieces (operands.Subquery q') ≡ of_subquery ∷ query_pieces q'
unfolding join_pieces operand_pieces select_item_pieces select_list_pieces tail_pieces added_pieces arm_pieces chain_pieces conjunction_pieces expr_pieces factor_pieces further_pieces multiplied_pieces negation_pieces predicate_pieces query_pieces select_pieces sum_pieces term_pieces
pieces_of_Operand_Subquery q' = search (rules, the_lemmas)

pub pieces_Operand_Parenthesized : (e' : Expr) → operand_pieces (roll-Operand (Operand-F.Parenthesized e')) ≡ expr_pieces e'
unfolding join_pieces operand_pieces select_item_pieces select_list_pieces tail_pieces added_pieces arm_pieces chain_pieces conjunction_pieces expr_pieces factor_pieces further_pieces multiplied_pieces negation_pieces predicate_pieces query_pieces select_pieces sum_pieces term_pieces
pieces_Operand_Parenthesized e' = search (rules, the_lemmas)

pub pieces_of_Operand_Parenthesized : (e' : Expr) → operand_pieces (operands.Parenthesized e') ≡ expr_pieces e'
unfolding join_pieces operand_pieces select_item_pieces select_list_pieces tail_pieces added_pieces arm_pieces chain_pieces conjunction_pieces expr_pieces factor_pieces further_pieces multiplied_pieces negation_pieces predicate_pieces query_pieces select_pieces sum_pieces term_pieces
pieces_of_Operand_Parenthesized e' = search (rules, the_lemmas)

pub pieces_SelectItem_Expr : (e' : Expr) (name' : Option NameBytes) → select_item_pieces (roll-SelectItem (SelectItem-F.Expr e' name')) ≡ of_name name' ∷ expr_pieces e'
unfolding join_pieces operand_pieces select_item_pieces select_list_pieces tail_pieces added_pieces arm_pieces chain_pieces conjunction_pieces expr_pieces factor_pieces further_pieces multiplied_pieces negation_pieces predicate_pieces query_pieces select_pieces sum_pieces term_pieces
pieces_SelectItem_Expr e' name' = search (rules, the_lemmas)

pub pieces_of_SelectItem_Expr : (e' : Expr) (name' : Option NameBytes) → select_item_pieces (items.Expr e' name') ≡ of_name name' ∷ expr_pieces e'
unfolding join_pieces operand_pieces select_item_pieces select_list_pieces tail_pieces added_pieces arm_pieces chain_pieces conjunction_pieces expr_pieces factor_pieces further_pieces multiplied_pieces negation_pieces predicate_pieces query_pieces select_pieces sum_pieces term_pieces
pieces_of_SelectItem_Expr e' name' = search (rules, the_lemmas)

pub pieces_SelectItem_QualifiedStar : (q' : NameBytes) → select_item_pieces (roll-SelectItem (SelectItem-F.QualifiedStar q')) ≡ of_star ∷ []
unfolding join_pieces operand_pieces select_item_pieces select_list_pieces tail_pieces added_pieces arm_pieces chain_pieces conjunction_pieces expr_pieces factor_pieces further_pieces multiplied_pieces negation_pieces predicate_pieces query_pieces select_pieces sum_pieces term_pieces
pieces_SelectItem_QualifiedStar q' = search (rules, the_lemmas)

pub pieces_of_SelectItem_QualifiedStar : (q' : NameBytes) → select_item_pieces (items.QualifiedStar q') ≡ of_star ∷ []
unfolding join_pieces operand_pieces select_item_pieces select_list_pieces tail_pieces added_pieces arm_pieces chain_pieces conjunction_pieces expr_pieces factor_pieces further_pieces multiplied_pieces negation_pieces predicate_pieces query_pieces select_pieces sum_pieces term_pieces
pieces_of_SelectItem_QualifiedStar q' = search (rules, the_lemmas)

pub pieces_SelectList_Star : select_list_pieces (roll-SelectList SelectList-F.Star) ≡ of_star ∷ []
unfolding join_pieces operand_pieces select_item_pieces select_list_pieces tail_pieces added_pieces arm_pieces chain_pieces conjunction_pieces expr_pieces factor_pieces further_pieces multiplied_pieces negation_pieces predicate_pieces query_pieces select_pieces sum_pieces term_pieces
pieces_SelectList_Star = search (rules, the_lemmas)

pub pieces_of_SelectList_Star : select_list_pieces lists.Star ≡ of_star ∷ []
unfolding join_pieces operand_pieces select_item_pieces select_list_pieces tail_pieces added_pieces arm_pieces chain_pieces conjunction_pieces expr_pieces factor_pieces further_pieces multiplied_pieces negation_pieces predicate_pieces query_pieces select_pieces sum_pieces term_pieces
pieces_of_SelectList_Star = search (rules, the_lemmas)

pub pieces_SelectList_Listed : (is' : List SelectItem) → select_list_pieces (roll-SelectList (SelectList-F.Listed is')) ≡ some_pieces (map select_item_pieces is')
unfolding join_pieces operand_pieces select_item_pieces select_list_pieces tail_pieces added_pieces arm_pieces chain_pieces conjunction_pieces expr_pieces factor_pieces further_pieces multiplied_pieces negation_pieces predicate_pieces query_pieces select_pieces sum_pieces term_pieces
pieces_SelectList_Listed is' = search (rules, the_lemmas)

pub pieces_of_SelectList_Listed : (is' : List SelectItem) → select_list_pieces (lists.Listed is') ≡ some_pieces (map select_item_pieces is')
unfolding join_pieces operand_pieces select_item_pieces select_list_pieces tail_pieces added_pieces arm_pieces chain_pieces conjunction_pieces expr_pieces factor_pieces further_pieces multiplied_pieces negation_pieces predicate_pieces query_pieces select_pieces sum_pieces term_pieces
pieces_of_SelectList_Listed is' = search (rules, the_lemmas)

pub pieces_Tail_Compare : (by' : Comparison) (x' : Sum) → tail_pieces (roll-Tail (Tail-F.Compare by' x')) ≡ sum_pieces x'
unfolding join_pieces operand_pieces select_item_pieces select_list_pieces tail_pieces added_pieces arm_pieces chain_pieces conjunction_pieces expr_pieces factor_pieces further_pieces multiplied_pieces negation_pieces predicate_pieces query_pieces select_pieces sum_pieces term_pieces
pieces_Tail_Compare by' x' = search (rules, the_lemmas)

pub pieces_of_Tail_Compare : (by' : Comparison) (x' : Sum) → tail_pieces (tails.Compare by' x') ≡ sum_pieces x'
unfolding join_pieces operand_pieces select_item_pieces select_list_pieces tail_pieces added_pieces arm_pieces chain_pieces conjunction_pieces expr_pieces factor_pieces further_pieces multiplied_pieces negation_pieces predicate_pieces query_pieces select_pieces sum_pieces term_pieces
pieces_of_Tail_Compare by' x' = search (rules, the_lemmas)

pub pieces_Tail_IsNull : (negated' : Bool) → tail_pieces (roll-Tail (Tail-F.IsNull negated')) ≡ []
unfolding join_pieces operand_pieces select_item_pieces select_list_pieces tail_pieces added_pieces arm_pieces chain_pieces conjunction_pieces expr_pieces factor_pieces further_pieces multiplied_pieces negation_pieces predicate_pieces query_pieces select_pieces sum_pieces term_pieces
pieces_Tail_IsNull negated' = search (rules, the_lemmas)

pub pieces_of_Tail_IsNull : (negated' : Bool) → tail_pieces (tails.IsNull negated') ≡ []
unfolding join_pieces operand_pieces select_item_pieces select_list_pieces tail_pieces added_pieces arm_pieces chain_pieces conjunction_pieces expr_pieces factor_pieces further_pieces multiplied_pieces negation_pieces predicate_pieces query_pieces select_pieces sum_pieces term_pieces
pieces_of_Tail_IsNull negated' = search (rules, the_lemmas)

pub pieces_Tail_Between : (negated' : Bool) (x' : Sum) (y' : Sum) → tail_pieces (roll-Tail (Tail-F.Between negated' x' y')) ≡ sum_pieces x' ++ sum_pieces y'
unfolding join_pieces operand_pieces select_item_pieces select_list_pieces tail_pieces added_pieces arm_pieces chain_pieces conjunction_pieces expr_pieces factor_pieces further_pieces multiplied_pieces negation_pieces predicate_pieces query_pieces select_pieces sum_pieces term_pieces
pieces_Tail_Between negated' x' y' = search (rules, the_lemmas)

pub pieces_of_Tail_Between : (negated' : Bool) (x' : Sum) (y' : Sum) → tail_pieces (tails.Between negated' x' y') ≡ sum_pieces x' ++ sum_pieces y'
unfolding join_pieces operand_pieces select_item_pieces select_list_pieces tail_pieces added_pieces arm_pieces chain_pieces conjunction_pieces expr_pieces factor_pieces further_pieces multiplied_pieces negation_pieces predicate_pieces query_pieces select_pieces sum_pieces term_pieces
pieces_of_Tail_Between negated' x' y' = search (rules, the_lemmas)

pub pieces_Tail_InQuery : (negated' : Bool) (q' : Query) → tail_pieces (roll-Tail (Tail-F.InQuery negated' q')) ≡ of_subquery ∷ query_pieces q'
unfolding join_pieces operand_pieces select_item_pieces select_list_pieces tail_pieces added_pieces arm_pieces chain_pieces conjunction_pieces expr_pieces factor_pieces further_pieces multiplied_pieces negation_pieces predicate_pieces query_pieces select_pieces sum_pieces term_pieces
pieces_Tail_InQuery negated' q' = search (rules, the_lemmas)

pub pieces_of_Tail_InQuery : (negated' : Bool) (q' : Query) → tail_pieces (tails.InQuery negated' q') ≡ of_subquery ∷ query_pieces q'
unfolding join_pieces operand_pieces select_item_pieces select_list_pieces tail_pieces added_pieces arm_pieces chain_pieces conjunction_pieces expr_pieces factor_pieces further_pieces multiplied_pieces negation_pieces predicate_pieces query_pieces select_pieces sum_pieces term_pieces
pieces_of_Tail_InQuery negated' q' = search (rules, the_lemmas)

pub pieces_Tail_InList : (negated' : Bool) (es' : List Expr) → tail_pieces (roll-Tail (Tail-F.InList negated' es')) ≡ some_pieces (map expr_pieces es')
unfolding join_pieces operand_pieces select_item_pieces select_list_pieces tail_pieces added_pieces arm_pieces chain_pieces conjunction_pieces expr_pieces factor_pieces further_pieces multiplied_pieces negation_pieces predicate_pieces query_pieces select_pieces sum_pieces term_pieces
pieces_Tail_InList negated' es' = search (rules, the_lemmas)

pub pieces_of_Tail_InList : (negated' : Bool) (es' : List Expr) → tail_pieces (tails.InList negated' es') ≡ some_pieces (map expr_pieces es')
unfolding join_pieces operand_pieces select_item_pieces select_list_pieces tail_pieces added_pieces arm_pieces chain_pieces conjunction_pieces expr_pieces factor_pieces further_pieces multiplied_pieces negation_pieces predicate_pieces query_pieces select_pieces sum_pieces term_pieces
pieces_of_Tail_InList negated' es' = search (rules, the_lemmas)

pub pieces_Tail_Like : (negated' : Bool) (x' : Sum) → tail_pieces (roll-Tail (Tail-F.Like negated' x')) ≡ sum_pieces x'
unfolding join_pieces operand_pieces select_item_pieces select_list_pieces tail_pieces added_pieces arm_pieces chain_pieces conjunction_pieces expr_pieces factor_pieces further_pieces multiplied_pieces negation_pieces predicate_pieces query_pieces select_pieces sum_pieces term_pieces
pieces_Tail_Like negated' x' = search (rules, the_lemmas)

pub pieces_of_Tail_Like : (negated' : Bool) (x' : Sum) → tail_pieces (tails.Like negated' x') ≡ sum_pieces x'
unfolding join_pieces operand_pieces select_item_pieces select_list_pieces tail_pieces added_pieces arm_pieces chain_pieces conjunction_pieces expr_pieces factor_pieces further_pieces multiplied_pieces negation_pieces predicate_pieces query_pieces select_pieces sum_pieces term_pieces
pieces_of_Tail_Like negated' x' = search (rules, the_lemmas)

pub pieces_Added : (by' : Additive) (term' : Term) → added_pieces (roll-Added (record { by = by'; term = term' })) ≡ term_pieces term'
unfolding join_pieces operand_pieces select_item_pieces select_list_pieces tail_pieces added_pieces arm_pieces chain_pieces conjunction_pieces expr_pieces factor_pieces further_pieces multiplied_pieces negation_pieces predicate_pieces query_pieces select_pieces sum_pieces term_pieces
pieces_Added by' term' = search (rules, the_lemmas)

pub pieces_Arm : (condition' : Expr) (value' : Expr) → arm_pieces (roll-Arm (record { condition = condition'; value = value' })) ≡ expr_pieces condition' ++ expr_pieces value'
unfolding join_pieces operand_pieces select_item_pieces select_list_pieces tail_pieces added_pieces arm_pieces chain_pieces conjunction_pieces expr_pieces factor_pieces further_pieces multiplied_pieces negation_pieces predicate_pieces query_pieces select_pieces sum_pieces term_pieces
pieces_Arm condition' value' = search (rules, the_lemmas)

pub pieces_Chain : (first' : TableReference) (joins' : List Join) → chain_pieces (roll-Chain (record { first = first'; joins = joins' })) ≡ table_pieces first' ++ all_pieces (map join_pieces joins')
unfolding join_pieces operand_pieces select_item_pieces select_list_pieces tail_pieces added_pieces arm_pieces chain_pieces conjunction_pieces expr_pieces factor_pieces further_pieces multiplied_pieces negation_pieces predicate_pieces query_pieces select_pieces sum_pieces term_pieces
pieces_Chain first' joins' = search (rules, the_lemmas)

pub pieces_Conjunction : (every' : List Negation) → conjunction_pieces (roll-Conjunction (record { every = every' })) ≡ some_pieces (map negation_pieces every')
unfolding join_pieces operand_pieces select_item_pieces select_list_pieces tail_pieces added_pieces arm_pieces chain_pieces conjunction_pieces expr_pieces factor_pieces further_pieces multiplied_pieces negation_pieces predicate_pieces query_pieces select_pieces sum_pieces term_pieces
pieces_Conjunction every' = search (rules, the_lemmas)

pub pieces_Expr : (any' : List Conjunction) → expr_pieces (roll-Expr (record { any = any' })) ≡ some_pieces (map conjunction_pieces any')
unfolding join_pieces operand_pieces select_item_pieces select_list_pieces tail_pieces added_pieces arm_pieces chain_pieces conjunction_pieces expr_pieces factor_pieces further_pieces multiplied_pieces negation_pieces predicate_pieces query_pieces select_pieces sum_pieces term_pieces
pieces_Expr any' = search (rules, the_lemmas)

pub pieces_Factor : (minus' : Bool) (operand' : Operand) → factor_pieces (roll-Factor (record { minus = minus'; operand = operand' })) ≡ operand_pieces operand'
unfolding join_pieces operand_pieces select_item_pieces select_list_pieces tail_pieces added_pieces arm_pieces chain_pieces conjunction_pieces expr_pieces factor_pieces further_pieces multiplied_pieces negation_pieces predicate_pieces query_pieces select_pieces sum_pieces term_pieces
pieces_Factor minus' operand' = search (rules, the_lemmas)

pub pieces_Further : (by' : SetOperator) (all' : Bool) (select' : Select) → further_pieces (roll-Further (record { by = by'; all = all'; select = select' })) ≡ select_pieces select'
unfolding join_pieces operand_pieces select_item_pieces select_list_pieces tail_pieces added_pieces arm_pieces chain_pieces conjunction_pieces expr_pieces factor_pieces further_pieces multiplied_pieces negation_pieces predicate_pieces query_pieces select_pieces sum_pieces term_pieces
pieces_Further by' all' select' = search (rules, the_lemmas)

pub pieces_Multiplied : (by' : Multiplicative) (factor' : Factor) → multiplied_pieces (roll-Multiplied (record { by = by'; factor = factor' })) ≡ factor_pieces factor'
unfolding join_pieces operand_pieces select_item_pieces select_list_pieces tail_pieces added_pieces arm_pieces chain_pieces conjunction_pieces expr_pieces factor_pieces further_pieces multiplied_pieces negation_pieces predicate_pieces query_pieces select_pieces sum_pieces term_pieces
pieces_Multiplied by' factor' = search (rules, the_lemmas)

pub pieces_Negation : (negated' : Bool) (predicate' : Predicate) → negation_pieces (roll-Negation (record { negated = negated'; predicate = predicate' })) ≡ predicate_pieces predicate'
unfolding join_pieces operand_pieces select_item_pieces select_list_pieces tail_pieces added_pieces arm_pieces chain_pieces conjunction_pieces expr_pieces factor_pieces further_pieces multiplied_pieces negation_pieces predicate_pieces query_pieces select_pieces sum_pieces term_pieces
pieces_Negation negated' predicate' = search (rules, the_lemmas)

pub pieces_Predicate : (tested' : Sum) (tail' : Option Tail) → predicate_pieces (roll-Predicate (record { tested = tested'; tail = tail' })) ≡ sum_pieces tested' ++ optional_pieces (option_map tail_pieces tail')
unfolding join_pieces operand_pieces select_item_pieces select_list_pieces tail_pieces added_pieces arm_pieces chain_pieces conjunction_pieces expr_pieces factor_pieces further_pieces multiplied_pieces negation_pieces predicate_pieces query_pieces select_pieces sum_pieces term_pieces
pieces_Predicate tested' tail' = search (rules, the_lemmas)

pub pieces_Query : (first' : Select) (others' : List Further) → query_pieces (roll-Query (record { first = first'; others = others' })) ≡ select_pieces first' ++ all_pieces (map further_pieces others')
unfolding join_pieces operand_pieces select_item_pieces select_list_pieces tail_pieces added_pieces arm_pieces chain_pieces conjunction_pieces expr_pieces factor_pieces further_pieces multiplied_pieces negation_pieces predicate_pieces query_pieces select_pieces sum_pieces term_pieces
pieces_Query first' others' = search (rules, the_lemmas)

pub pieces_Select : (distinct' : Bool) (list' : SelectList) (from' : List Chain) (filter' : Option Expr) (group_by' : List Reference) → select_pieces (roll-Select (record { distinct = distinct'; list = list'; from = from'; filter = filter'; group_by = group_by' })) ≡ select_list_pieces list' ++ some_pieces (map chain_pieces from') ++ optional_pieces (option_map expr_pieces filter') ++ map of_group group_by'
unfolding join_pieces operand_pieces select_item_pieces select_list_pieces tail_pieces added_pieces arm_pieces chain_pieces conjunction_pieces expr_pieces factor_pieces further_pieces multiplied_pieces negation_pieces predicate_pieces query_pieces select_pieces sum_pieces term_pieces
pieces_Select distinct' list' from' filter' group_by' = search (rules, the_lemmas)

pub pieces_Sum : (first' : Term) (others' : List Added) → sum_pieces (roll-Sum (record { first = first'; others = others' })) ≡ term_pieces first' ++ all_pieces (map added_pieces others')
unfolding join_pieces operand_pieces select_item_pieces select_list_pieces tail_pieces added_pieces arm_pieces chain_pieces conjunction_pieces expr_pieces factor_pieces further_pieces multiplied_pieces negation_pieces predicate_pieces query_pieces select_pieces sum_pieces term_pieces
pieces_Sum first' others' = search (rules, the_lemmas)

pub pieces_Term : (first' : Factor) (others' : List Multiplied) → term_pieces (roll-Term (record { first = first'; others = others' })) ≡ factor_pieces first' ++ all_pieces (map multiplied_pieces others')
unfolding join_pieces operand_pieces select_item_pieces select_list_pieces tail_pieces added_pieces arm_pieces chain_pieces conjunction_pieces expr_pieces factor_pieces further_pieces multiplied_pieces negation_pieces predicate_pieces query_pieces select_pieces sum_pieces term_pieces
pieces_Term first' others' = search (rules, the_lemmas)
