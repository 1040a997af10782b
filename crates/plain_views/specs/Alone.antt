-- What each part of a tree has for a plain view, as of queries.
use Rattle.std.specs.Prelude.{List, Option}
use Rattle.sql_names.specs.NameBytes.{NameBytes}
use Rattle.sql_names.specs.declared.object.Object.{Object}
use Rattle.sql_tree.specs.declared.expr.Join.{Join, fold-Join}
use Rattle.sql_tree.specs.declared.expr.Operand.{Operand, fold-Operand}
use Rattle.sql_tree.specs.declared.expr.SelectItem.{SelectItem, fold-SelectItem}
use Rattle.sql_tree.specs.declared.expr.SelectList.{SelectList, fold-SelectList}
use Rattle.sql_tree.specs.declared.expr.Tail.{Tail, fold-Tail}
use Rattle.sql_tree.specs.declared.expr.Added.{Added, fold-Added}
use Rattle.sql_tree.specs.declared.expr.Arm.{Arm, fold-Arm}
use Rattle.sql_tree.specs.declared.expr.Chain.{Chain, fold-Chain}
use Rattle.sql_tree.specs.declared.expr.Conjunction.{Conjunction, fold-Conjunction}
use Rattle.sql_tree.specs.declared.expr.Expr.{Expr, fold-Expr}
use Rattle.sql_tree.specs.declared.expr.Factor.{Factor, fold-Factor}
use Rattle.sql_tree.specs.declared.expr.Further.{Further, fold-Further}
use Rattle.sql_tree.specs.declared.expr.Multiplied.{Multiplied, fold-Multiplied}
use Rattle.sql_tree.specs.declared.expr.Negation.{Negation, fold-Negation}
use Rattle.sql_tree.specs.declared.expr.Predicate.{Predicate, fold-Predicate}
use Rattle.sql_tree.specs.declared.expr.Select.{Select, fold-Select}
use Rattle.sql_tree.specs.declared.expr.Sum.{Sum, fold-Sum}
use Rattle.sql_tree.specs.declared.expr.Term.{Term, fold-Term}
use Rattle.cat_items.specs.Plain.{Alone, Base, join_base_step, operand_base_step, select_item_base_step, select_list_base_step, tail_base_step, added_base_step, arm_base_step, chain_base_step, conjunction_base_step, expr_base_step, factor_base_step, further_base_step, multiplied_base_step, negation_base_step, predicate_base_step, query_base_step, select_base_step, sum_base_step, term_base_step}

unfoldable pub join_base : Join → Unit {0}
join_base = fold-Join (Unit {0}) Alone (Option NameBytes) (Option (List NameBytes)) Alone Alone Alone (Option Object) Alone Alone Alone (Unit {0}) Alone Alone Alone (Option Base) (Option Base) Alone Alone
    join_base_step operand_base_step select_item_base_step select_list_base_step tail_base_step added_base_step arm_base_step chain_base_step conjunction_base_step expr_base_step factor_base_step further_base_step multiplied_base_step negation_base_step predicate_base_step query_base_step select_base_step sum_base_step term_base_step

unfoldable pub operand_base : Operand → Alone
operand_base = fold-Operand (Unit {0}) Alone (Option NameBytes) (Option (List NameBytes)) Alone Alone Alone (Option Object) Alone Alone Alone (Unit {0}) Alone Alone Alone (Option Base) (Option Base) Alone Alone
    join_base_step operand_base_step select_item_base_step select_list_base_step tail_base_step added_base_step arm_base_step chain_base_step conjunction_base_step expr_base_step factor_base_step further_base_step multiplied_base_step negation_base_step predicate_base_step query_base_step select_base_step sum_base_step term_base_step

unfoldable pub select_item_base : SelectItem → Option NameBytes
select_item_base = fold-SelectItem (Unit {0}) Alone (Option NameBytes) (Option (List NameBytes)) Alone Alone Alone (Option Object) Alone Alone Alone (Unit {0}) Alone Alone Alone (Option Base) (Option Base) Alone Alone
    join_base_step operand_base_step select_item_base_step select_list_base_step tail_base_step added_base_step arm_base_step chain_base_step conjunction_base_step expr_base_step factor_base_step further_base_step multiplied_base_step negation_base_step predicate_base_step query_base_step select_base_step sum_base_step term_base_step

unfoldable pub select_list_base : SelectList → Option (List NameBytes)
select_list_base = fold-SelectList (Unit {0}) Alone (Option NameBytes) (Option (List NameBytes)) Alone Alone Alone (Option Object) Alone Alone Alone (Unit {0}) Alone Alone Alone (Option Base) (Option Base) Alone Alone
    join_base_step operand_base_step select_item_base_step select_list_base_step tail_base_step added_base_step arm_base_step chain_base_step conjunction_base_step expr_base_step factor_base_step further_base_step multiplied_base_step negation_base_step predicate_base_step query_base_step select_base_step sum_base_step term_base_step

unfoldable pub tail_base : Tail → Alone
tail_base = fold-Tail (Unit {0}) Alone (Option NameBytes) (Option (List NameBytes)) Alone Alone Alone (Option Object) Alone Alone Alone (Unit {0}) Alone Alone Alone (Option Base) (Option Base) Alone Alone
    join_base_step operand_base_step select_item_base_step select_list_base_step tail_base_step added_base_step arm_base_step chain_base_step conjunction_base_step expr_base_step factor_base_step further_base_step multiplied_base_step negation_base_step predicate_base_step query_base_step select_base_step sum_base_step term_base_step

unfoldable pub added_base : Added → Alone
added_base = fold-Added (Unit {0}) Alone (Option NameBytes) (Option (List NameBytes)) Alone Alone Alone (Option Object) Alone Alone Alone (Unit {0}) Alone Alone Alone (Option Base) (Option Base) Alone Alone
    join_base_step operand_base_step select_item_base_step select_list_base_step tail_base_step added_base_step arm_base_step chain_base_step conjunction_base_step expr_base_step factor_base_step further_base_step multiplied_base_step negation_base_step predicate_base_step query_base_step select_base_step sum_base_step term_base_step

unfoldable pub arm_base : Arm → Alone
arm_base = fold-Arm (Unit {0}) Alone (Option NameBytes) (Option (List NameBytes)) Alone Alone Alone (Option Object) Alone Alone Alone (Unit {0}) Alone Alone Alone (Option Base) (Option Base) Alone Alone
    join_base_step operand_base_step select_item_base_step select_list_base_step tail_base_step added_base_step arm_base_step chain_base_step conjunction_base_step expr_base_step factor_base_step further_base_step multiplied_base_step negation_base_step predicate_base_step query_base_step select_base_step sum_base_step term_base_step

unfoldable pub chain_base : Chain → Option Object
chain_base = fold-Chain (Unit {0}) Alone (Option NameBytes) (Option (List NameBytes)) Alone Alone Alone (Option Object) Alone Alone Alone (Unit {0}) Alone Alone Alone (Option Base) (Option Base) Alone Alone
    join_base_step operand_base_step select_item_base_step select_list_base_step tail_base_step added_base_step arm_base_step chain_base_step conjunction_base_step expr_base_step factor_base_step further_base_step multiplied_base_step negation_base_step predicate_base_step query_base_step select_base_step sum_base_step term_base_step

unfoldable pub conjunction_base : Conjunction → Alone
conjunction_base = fold-Conjunction (Unit {0}) Alone (Option NameBytes) (Option (List NameBytes)) Alone Alone Alone (Option Object) Alone Alone Alone (Unit {0}) Alone Alone Alone (Option Base) (Option Base) Alone Alone
    join_base_step operand_base_step select_item_base_step select_list_base_step tail_base_step added_base_step arm_base_step chain_base_step conjunction_base_step expr_base_step factor_base_step further_base_step multiplied_base_step negation_base_step predicate_base_step query_base_step select_base_step sum_base_step term_base_step

unfoldable pub expr_base : Expr → Alone
expr_base = fold-Expr (Unit {0}) Alone (Option NameBytes) (Option (List NameBytes)) Alone Alone Alone (Option Object) Alone Alone Alone (Unit {0}) Alone Alone Alone (Option Base) (Option Base) Alone Alone
    join_base_step operand_base_step select_item_base_step select_list_base_step tail_base_step added_base_step arm_base_step chain_base_step conjunction_base_step expr_base_step factor_base_step further_base_step multiplied_base_step negation_base_step predicate_base_step query_base_step select_base_step sum_base_step term_base_step

unfoldable pub factor_base : Factor → Alone
factor_base = fold-Factor (Unit {0}) Alone (Option NameBytes) (Option (List NameBytes)) Alone Alone Alone (Option Object) Alone Alone Alone (Unit {0}) Alone Alone Alone (Option Base) (Option Base) Alone Alone
    join_base_step operand_base_step select_item_base_step select_list_base_step tail_base_step added_base_step arm_base_step chain_base_step conjunction_base_step expr_base_step factor_base_step further_base_step multiplied_base_step negation_base_step predicate_base_step query_base_step select_base_step sum_base_step term_base_step

unfoldable pub further_base : Further → Unit {0}
further_base = fold-Further (Unit {0}) Alone (Option NameBytes) (Option (List NameBytes)) Alone Alone Alone (Option Object) Alone Alone Alone (Unit {0}) Alone Alone Alone (Option Base) (Option Base) Alone Alone
    join_base_step operand_base_step select_item_base_step select_list_base_step tail_base_step added_base_step arm_base_step chain_base_step conjunction_base_step expr_base_step factor_base_step further_base_step multiplied_base_step negation_base_step predicate_base_step query_base_step select_base_step sum_base_step term_base_step

unfoldable pub multiplied_base : Multiplied → Alone
multiplied_base = fold-Multiplied (Unit {0}) Alone (Option NameBytes) (Option (List NameBytes)) Alone Alone Alone (Option Object) Alone Alone Alone (Unit {0}) Alone Alone Alone (Option Base) (Option Base) Alone Alone
    join_base_step operand_base_step select_item_base_step select_list_base_step tail_base_step added_base_step arm_base_step chain_base_step conjunction_base_step expr_base_step factor_base_step further_base_step multiplied_base_step negation_base_step predicate_base_step query_base_step select_base_step sum_base_step term_base_step

unfoldable pub negation_base : Negation → Alone
negation_base = fold-Negation (Unit {0}) Alone (Option NameBytes) (Option (List NameBytes)) Alone Alone Alone (Option Object) Alone Alone Alone (Unit {0}) Alone Alone Alone (Option Base) (Option Base) Alone Alone
    join_base_step operand_base_step select_item_base_step select_list_base_step tail_base_step added_base_step arm_base_step chain_base_step conjunction_base_step expr_base_step factor_base_step further_base_step multiplied_base_step negation_base_step predicate_base_step query_base_step select_base_step sum_base_step term_base_step

unfoldable pub predicate_base : Predicate → Alone
predicate_base = fold-Predicate (Unit {0}) Alone (Option NameBytes) (Option (List NameBytes)) Alone Alone Alone (Option Object) Alone Alone Alone (Unit {0}) Alone Alone Alone (Option Base) (Option Base) Alone Alone
    join_base_step operand_base_step select_item_base_step select_list_base_step tail_base_step added_base_step arm_base_step chain_base_step conjunction_base_step expr_base_step factor_base_step further_base_step multiplied_base_step negation_base_step predicate_base_step query_base_step select_base_step sum_base_step term_base_step

unfoldable pub select_base : Select → Option Base
select_base = fold-Select (Unit {0}) Alone (Option NameBytes) (Option (List NameBytes)) Alone Alone Alone (Option Object) Alone Alone Alone (Unit {0}) Alone Alone Alone (Option Base) (Option Base) Alone Alone
    join_base_step operand_base_step select_item_base_step select_list_base_step tail_base_step added_base_step arm_base_step chain_base_step conjunction_base_step expr_base_step factor_base_step further_base_step multiplied_base_step negation_base_step predicate_base_step query_base_step select_base_step sum_base_step term_base_step

unfoldable pub sum_base : Sum → Alone
sum_base = fold-Sum (Unit {0}) Alone (Option NameBytes) (Option (List NameBytes)) Alone Alone Alone (Option Object) Alone Alone Alone (Unit {0}) Alone Alone Alone (Option Base) (Option Base) Alone Alone
    join_base_step operand_base_step select_item_base_step select_list_base_step tail_base_step added_base_step arm_base_step chain_base_step conjunction_base_step expr_base_step factor_base_step further_base_step multiplied_base_step negation_base_step predicate_base_step query_base_step select_base_step sum_base_step term_base_step

unfoldable pub term_base : Term → Alone
term_base = fold-Term (Unit {0}) Alone (Option NameBytes) (Option (List NameBytes)) Alone Alone Alone (Option Object) Alone Alone Alone (Unit {0}) Alone Alone Alone (Option Base) (Option Base) Alone Alone
    join_base_step operand_base_step select_item_base_step select_list_base_step tail_base_step added_base_step arm_base_step chain_base_step conjunction_base_step expr_base_step factor_base_step further_base_step multiplied_base_step negation_base_step predicate_base_step query_base_step select_base_step sum_base_step term_base_step
