-- The pieces of each part of a tree, as of queries and expressions.
use Rattle.sql_tree.specs.declared.expr.Join.{Join, fold-Join}
use Rattle.sql_tree.specs.declared.expr.Operand.{Operand, fold-Operand}
use Rattle.sql_tree.specs.declared.expr.SelectItem.{SelectItem, fold-SelectItem}
use Rattle.sql_tree.specs.declared.expr.SelectList.{SelectList, fold-SelectList}
use Rattle.sql_tree.specs.declared.expr.Tail.{Tail, fold-Tail}
use Rattle.sql_tree.specs.declared.expr.Added.{Added, fold-Added}
use Rattle.sql_tree.specs.declared.expr.Arm.{Arm, fold-Arm}
use Rattle.sql_tree.specs.declared.expr.Chain.{Chain, fold-Chain}
use Rattle.sql_tree.specs.declared.expr.Conjunction.{Conjunction, fold-Conjunction}
use Rattle.sql_tree.specs.declared.expr.Factor.{Factor, fold-Factor}
use Rattle.sql_tree.specs.declared.expr.Further.{Further, fold-Further}
use Rattle.sql_tree.specs.declared.expr.Multiplied.{Multiplied, fold-Multiplied}
use Rattle.sql_tree.specs.declared.expr.Negation.{Negation, fold-Negation}
use Rattle.sql_tree.specs.declared.expr.Predicate.{Predicate, fold-Predicate}
use Rattle.sql_tree.specs.declared.expr.Select.{Select, fold-Select}
use Rattle.sql_tree.specs.declared.expr.Sum.{Sum, fold-Sum}
use Rattle.sql_tree.specs.declared.expr.Term.{Term, fold-Term}
use Rattle.cat_items.specs.Pieces.{Pieces, join_pieces_step, operand_pieces_step, select_item_pieces_step, select_list_pieces_step, tail_pieces_step, added_pieces_step, arm_pieces_step, chain_pieces_step, conjunction_pieces_step, expr_pieces_step, factor_pieces_step, further_pieces_step, multiplied_pieces_step, negation_pieces_step, predicate_pieces_step, query_pieces_step, select_pieces_step, sum_pieces_step, term_pieces_step}

unfoldable pub join_pieces : Join → Pieces
join_pieces = fold-Join Pieces Pieces Pieces Pieces Pieces Pieces Pieces Pieces Pieces Pieces Pieces Pieces Pieces Pieces Pieces Pieces Pieces Pieces Pieces
    join_pieces_step operand_pieces_step select_item_pieces_step select_list_pieces_step tail_pieces_step added_pieces_step arm_pieces_step chain_pieces_step conjunction_pieces_step expr_pieces_step factor_pieces_step further_pieces_step multiplied_pieces_step negation_pieces_step predicate_pieces_step query_pieces_step select_pieces_step sum_pieces_step term_pieces_step

unfoldable pub operand_pieces : Operand → Pieces
operand_pieces = fold-Operand Pieces Pieces Pieces Pieces Pieces Pieces Pieces Pieces Pieces Pieces Pieces Pieces Pieces Pieces Pieces Pieces Pieces Pieces Pieces
    join_pieces_step operand_pieces_step select_item_pieces_step select_list_pieces_step tail_pieces_step added_pieces_step arm_pieces_step chain_pieces_step conjunction_pieces_step expr_pieces_step factor_pieces_step further_pieces_step multiplied_pieces_step negation_pieces_step predicate_pieces_step query_pieces_step select_pieces_step sum_pieces_step term_pieces_step

unfoldable pub select_item_pieces : SelectItem → Pieces
select_item_pieces = fold-SelectItem Pieces Pieces Pieces Pieces Pieces Pieces Pieces Pieces Pieces Pieces Pieces Pieces Pieces Pieces Pieces Pieces Pieces Pieces Pieces
    join_pieces_step operand_pieces_step select_item_pieces_step select_list_pieces_step tail_pieces_step added_pieces_step arm_pieces_step chain_pieces_step conjunction_pieces_step expr_pieces_step factor_pieces_step further_pieces_step multiplied_pieces_step negation_pieces_step predicate_pieces_step query_pieces_step select_pieces_step sum_pieces_step term_pieces_step

unfoldable pub select_list_pieces : SelectList → Pieces
select_list_pieces = fold-SelectList Pieces Pieces Pieces Pieces Pieces Pieces Pieces Pieces Pieces Pieces Pieces Pieces Pieces Pieces Pieces Pieces Pieces Pieces Pieces
    join_pieces_step operand_pieces_step select_item_pieces_step select_list_pieces_step tail_pieces_step added_pieces_step arm_pieces_step chain_pieces_step conjunction_pieces_step expr_pieces_step factor_pieces_step further_pieces_step multiplied_pieces_step negation_pieces_step predicate_pieces_step query_pieces_step select_pieces_step sum_pieces_step term_pieces_step

unfoldable pub tail_pieces : Tail → Pieces
tail_pieces = fold-Tail Pieces Pieces Pieces Pieces Pieces Pieces Pieces Pieces Pieces Pieces Pieces Pieces Pieces Pieces Pieces Pieces Pieces Pieces Pieces
    join_pieces_step operand_pieces_step select_item_pieces_step select_list_pieces_step tail_pieces_step added_pieces_step arm_pieces_step chain_pieces_step conjunction_pieces_step expr_pieces_step factor_pieces_step further_pieces_step multiplied_pieces_step negation_pieces_step predicate_pieces_step query_pieces_step select_pieces_step sum_pieces_step term_pieces_step

unfoldable pub added_pieces : Added → Pieces
added_pieces = fold-Added Pieces Pieces Pieces Pieces Pieces Pieces Pieces Pieces Pieces Pieces Pieces Pieces Pieces Pieces Pieces Pieces Pieces Pieces Pieces
    join_pieces_step operand_pieces_step select_item_pieces_step select_list_pieces_step tail_pieces_step added_pieces_step arm_pieces_step chain_pieces_step conjunction_pieces_step expr_pieces_step factor_pieces_step further_pieces_step multiplied_pieces_step negation_pieces_step predicate_pieces_step query_pieces_step select_pieces_step sum_pieces_step term_pieces_step

unfoldable pub arm_pieces : Arm → Pieces
arm_pieces = fold-Arm Pieces Pieces Pieces Pieces Pieces Pieces Pieces Pieces Pieces Pieces Pieces Pieces Pieces Pieces Pieces Pieces Pieces Pieces Pieces
    join_pieces_step operand_pieces_step select_item_pieces_step select_list_pieces_step tail_pieces_step added_pieces_step arm_pieces_step chain_pieces_step conjunction_pieces_step expr_pieces_step factor_pieces_step further_pieces_step multiplied_pieces_step negation_pieces_step predicate_pieces_step query_pieces_step select_pieces_step sum_pieces_step term_pieces_step

unfoldable pub chain_pieces : Chain → Pieces
chain_pieces = fold-Chain Pieces Pieces Pieces Pieces Pieces Pieces Pieces Pieces Pieces Pieces Pieces Pieces Pieces Pieces Pieces Pieces Pieces Pieces Pieces
    join_pieces_step operand_pieces_step select_item_pieces_step select_list_pieces_step tail_pieces_step added_pieces_step arm_pieces_step chain_pieces_step conjunction_pieces_step expr_pieces_step factor_pieces_step further_pieces_step multiplied_pieces_step negation_pieces_step predicate_pieces_step query_pieces_step select_pieces_step sum_pieces_step term_pieces_step

unfoldable pub conjunction_pieces : Conjunction → Pieces
conjunction_pieces = fold-Conjunction Pieces Pieces Pieces Pieces Pieces Pieces Pieces Pieces Pieces Pieces Pieces Pieces Pieces Pieces Pieces Pieces Pieces Pieces Pieces
    join_pieces_step operand_pieces_step select_item_pieces_step select_list_pieces_step tail_pieces_step added_pieces_step arm_pieces_step chain_pieces_step conjunction_pieces_step expr_pieces_step factor_pieces_step further_pieces_step multiplied_pieces_step negation_pieces_step predicate_pieces_step query_pieces_step select_pieces_step sum_pieces_step term_pieces_step

unfoldable pub factor_pieces : Factor → Pieces
factor_pieces = fold-Factor Pieces Pieces Pieces Pieces Pieces Pieces Pieces Pieces Pieces Pieces Pieces Pieces Pieces Pieces Pieces Pieces Pieces Pieces Pieces
    join_pieces_step operand_pieces_step select_item_pieces_step select_list_pieces_step tail_pieces_step added_pieces_step arm_pieces_step chain_pieces_step conjunction_pieces_step expr_pieces_step factor_pieces_step further_pieces_step multiplied_pieces_step negation_pieces_step predicate_pieces_step query_pieces_step select_pieces_step sum_pieces_step term_pieces_step

unfoldable pub further_pieces : Further → Pieces
further_pieces = fold-Further Pieces Pieces Pieces Pieces Pieces Pieces Pieces Pieces Pieces Pieces Pieces Pieces Pieces Pieces Pieces Pieces Pieces Pieces Pieces
    join_pieces_step operand_pieces_step select_item_pieces_step select_list_pieces_step tail_pieces_step added_pieces_step arm_pieces_step chain_pieces_step conjunction_pieces_step expr_pieces_step factor_pieces_step further_pieces_step multiplied_pieces_step negation_pieces_step predicate_pieces_step query_pieces_step select_pieces_step sum_pieces_step term_pieces_step

unfoldable pub multiplied_pieces : Multiplied → Pieces
multiplied_pieces = fold-Multiplied Pieces Pieces Pieces Pieces Pieces Pieces Pieces Pieces Pieces Pieces Pieces Pieces Pieces Pieces Pieces Pieces Pieces Pieces Pieces
    join_pieces_step operand_pieces_step select_item_pieces_step select_list_pieces_step tail_pieces_step added_pieces_step arm_pieces_step chain_pieces_step conjunction_pieces_step expr_pieces_step factor_pieces_step further_pieces_step multiplied_pieces_step negation_pieces_step predicate_pieces_step query_pieces_step select_pieces_step sum_pieces_step term_pieces_step

unfoldable pub negation_pieces : Negation → Pieces
negation_pieces = fold-Negation Pieces Pieces Pieces Pieces Pieces Pieces Pieces Pieces Pieces Pieces Pieces Pieces Pieces Pieces Pieces Pieces Pieces Pieces Pieces
    join_pieces_step operand_pieces_step select_item_pieces_step select_list_pieces_step tail_pieces_step added_pieces_step arm_pieces_step chain_pieces_step conjunction_pieces_step expr_pieces_step factor_pieces_step further_pieces_step multiplied_pieces_step negation_pieces_step predicate_pieces_step query_pieces_step select_pieces_step sum_pieces_step term_pieces_step

unfoldable pub predicate_pieces : Predicate → Pieces
predicate_pieces = fold-Predicate Pieces Pieces Pieces Pieces Pieces Pieces Pieces Pieces Pieces Pieces Pieces Pieces Pieces Pieces Pieces Pieces Pieces Pieces Pieces
    join_pieces_step operand_pieces_step select_item_pieces_step select_list_pieces_step tail_pieces_step added_pieces_step arm_pieces_step chain_pieces_step conjunction_pieces_step expr_pieces_step factor_pieces_step further_pieces_step multiplied_pieces_step negation_pieces_step predicate_pieces_step query_pieces_step select_pieces_step sum_pieces_step term_pieces_step

unfoldable pub select_pieces : Select → Pieces
select_pieces = fold-Select Pieces Pieces Pieces Pieces Pieces Pieces Pieces Pieces Pieces Pieces Pieces Pieces Pieces Pieces Pieces Pieces Pieces Pieces Pieces
    join_pieces_step operand_pieces_step select_item_pieces_step select_list_pieces_step tail_pieces_step added_pieces_step arm_pieces_step chain_pieces_step conjunction_pieces_step expr_pieces_step factor_pieces_step further_pieces_step multiplied_pieces_step negation_pieces_step predicate_pieces_step query_pieces_step select_pieces_step sum_pieces_step term_pieces_step

unfoldable pub sum_pieces : Sum → Pieces
sum_pieces = fold-Sum Pieces Pieces Pieces Pieces Pieces Pieces Pieces Pieces Pieces Pieces Pieces Pieces Pieces Pieces Pieces Pieces Pieces Pieces Pieces
    join_pieces_step operand_pieces_step select_item_pieces_step select_list_pieces_step tail_pieces_step added_pieces_step arm_pieces_step chain_pieces_step conjunction_pieces_step expr_pieces_step factor_pieces_step further_pieces_step multiplied_pieces_step negation_pieces_step predicate_pieces_step query_pieces_step select_pieces_step sum_pieces_step term_pieces_step

unfoldable pub term_pieces : Term → Pieces
term_pieces = fold-Term Pieces Pieces Pieces Pieces Pieces Pieces Pieces Pieces Pieces Pieces Pieces Pieces Pieces Pieces Pieces Pieces Pieces Pieces Pieces
    join_pieces_step operand_pieces_step select_item_pieces_step select_list_pieces_step tail_pieces_step added_pieces_step arm_pieces_step chain_pieces_step conjunction_pieces_step expr_pieces_step factor_pieces_step further_pieces_step multiplied_pieces_step negation_pieces_step predicate_pieces_step query_pieces_step select_pieces_step sum_pieces_step term_pieces_step
