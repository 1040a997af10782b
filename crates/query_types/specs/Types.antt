-- The type of a resolved tree, or none.
use Rattle.std.specs.Prelude.{List, [], ◌∷◌, Some, None, option_and_then}
use Rattle.sql_names.specs.declared.sort.SqlType.{SqlType}
use Rattle.sql_names.specs.declared.sort.SqlType.TheVariants.{Boolean, Bigint}
use Rattle.sql_tree.specs.declared.expr.Additive.{Additive}
use Rattle.name_scopes.specs.declared.scope.Scope.{Scope}
use Rattle.name_scopes.specs.Known.{Known}
use Rattle.type_rules.specs.Rules.{negative, number_type, literal_type, special_type, aggregate}
use Rattle.type_rules.specs.TypeParts.{Typed, Tested, Part, each, holds, all_hold, tables, frame, reference, routine, called, tab_of, tested, compared, between, listed, like, logical, unless_negated, with_tail, guarded, case_type, cast_type, there, single, sum_of, product_of, united, selected_where}
use Rattle.sql_tree.specs.declared.expr.Join.{Join, fold-Join}
use Rattle.sql_tree.specs.declared.expr.Operand.{Operand, fold-Operand}
use Rattle.sql_tree.specs.declared.expr.SelectItem.{SelectItem, fold-SelectItem}
use Rattle.sql_tree.specs.declared.expr.SelectList.{SelectList, fold-SelectList}
use Rattle.sql_tree.specs.declared.expr.Tail.{Tail, fold-Tail}
use Rattle.sql_tree.specs.declared.expr.Added.{Added, fold-Added}
use Rattle.sql_tree.specs.declared.expr.Arm.{Arm, fold-Arm}
use Rattle.sql_tree.specs.declared.expr.Chain.{Chain, fold-Chain}
use Rattle.sql_tree.specs.declared.expr.Conjunction.{Conjunction, fold-Conjunction}
use Rattle.sql_tree.specs.declared.expr.Expr.{Expr, fold-Expr}
use Rattle.sql_tree.specs.declared.expr.Factor.{Factor, fold-Factor}
use Rattle.sql_tree.specs.declared.expr.Further.{Further, fold-Further}
use Rattle.sql_tree.specs.declared.expr.Multiplied.{Multiplied, fold-Multiplied}
use Rattle.sql_tree.specs.declared.expr.Negation.{Negation, fold-Negation}
use Rattle.sql_tree.specs.declared.expr.Predicate.{Predicate, fold-Predicate}
use Rattle.sql_tree.specs.declared.expr.Query.{Query, fold-Query}
use Rattle.sql_tree.specs.declared.expr.Select.{Select, fold-Select}
use Rattle.sql_tree.specs.declared.expr.Sum.{Sum, fold-Sum}
use Rattle.sql_tree.specs.declared.expr.Term.{Term, fold-Term}
use Rattle.sql_tree.specs.declared.expr.Join.TheOpen.{Added-F, Arm-F, Chain-F, Conjunction-F, Expr-F, Factor-F, Further-F, Join-F, Multiplied-F, Negation-F, Operand-F, Predicate-F, Query-F, Select-F, SelectItem-F, SelectList-F, Sum-F, Tail-F, Term-F}

-- a part of a tree whose own parts are already seen so
abbrev pub Of : (Type 0 → Type 0 → Type 0 → Type 0 → Type 0 → Type 0 → Type 0 → Type 0 → Type 0 → Type 0 → Type 0 → Type 0 → Type 0 → Type 0 → Type 0 → Type 0 → Type 0 → Type 0 → Type 0 → Type 0) → Type 0
Of F = F Part (Typed SqlType) (Typed SqlType) (Typed (List SqlType)) Tested (Additive × Typed SqlType) (Typed SqlType) Part (Typed SqlType) (Typed SqlType) (Typed SqlType) (Typed (List SqlType)) (Typed SqlType) (Typed SqlType) (Typed SqlType) (Typed (List SqlType)) (Typed (List SqlType)) (Typed SqlType) (Typed SqlType)

module _ (k : Known) (scope : Scope) where
  abbrev pub join_step : Of Join-F → Part
  join_step (Join-F.Inner t on) = (tab_of k scope t ∷ [], holds (Some on))
  join_step (Join-F.Cross t) = (tab_of k scope t ∷ [], holds None)

  abbrev pub operand_step : Of Operand-F → Typed SqlType
  operand_step (Operand-F.Literal text) s = Some (literal_type text)
  operand_step (Operand-F.Number text) s = Some (number_type text)
  operand_step Operand-F.True s = Some Boolean
  operand_step Operand-F.False s = Some Boolean
  operand_step (Operand-F.Special special) s = Some (special_type special)
  operand_step Operand-F.Value s = scope.value
  operand_step (Operand-F.Reference r) s = reference k scope r s
  operand_step (Operand-F.Call f es) s = called (routine k scope f) (each s [] es)
  operand_step Operand-F.CountAll s = Some Bigint
  operand_step (Operand-F.Aggregate by e) s = option_and_then (aggregate by) (e s)
  operand_step (Operand-F.Case arms e) s = case_type (each s [] arms) e s
  operand_step (Operand-F.Cast e sort) s = cast_type e sort s
  operand_step (Operand-F.Exists q) s = there (q s)
  operand_step (Operand-F.Subquery q) s = single (q s)
  operand_step (Operand-F.Parenthesized e) s = e s

  abbrev pub select_item_step : Of SelectItem-F → Typed SqlType
  select_item_step (SelectItem-F.Expr e name) s = e s
  select_item_step (SelectItem-F.QualifiedStar name) s = None

  abbrev pub select_list_step : Of SelectList-F → Typed (List SqlType)
  select_list_step SelectList-F.Star s = None
  select_list_step (SelectList-F.Listed is) s = each s [] is

  abbrev pub tail_step : Of Tail-F → Tested
  tail_step (Tail-F.Compare by x) s left = compared left (x s)
  tail_step (Tail-F.IsNull negated) s left = tested left
  tail_step (Tail-F.Between negated x y) s left = between left (x s) (y s)
  tail_step (Tail-F.InQuery negated q) s left = compared left (single (q s))
  tail_step (Tail-F.InList negated es) s left = listed left (each s [] es)
  tail_step (Tail-F.Like negated x) s left = like left (x s)

  abbrev pub added_step : Of Added-F → Additive × Typed SqlType
  added_step x = (x.by, x.term)

  abbrev pub arm_step : Of Arm-F → Typed SqlType
  arm_step x s = guarded (x.condition s) (x.value s)

  abbrev pub chain_step : Of Chain-F → Part
  chain_step x = (tab_of k scope x.first ∷ tables x.joins, all_hold x.joins)

  abbrev pub conjunction_step : Of Conjunction-F → Typed SqlType
  conjunction_step x s = logical (each s [] x.every)

  abbrev pub expr_step : Of Expr-F → Typed SqlType
  expr_step x s = logical (each s [] x.any)

  abbrev pub factor_step : Of Factor-F → Typed SqlType
  factor_step x s = option_and_then (negative x.minus) (x.operand s)

  abbrev pub further_step : Of Further-F → Typed (List SqlType)
  further_step x s = x.select s

  abbrev pub multiplied_step : Of Multiplied-F → Typed SqlType
  multiplied_step x s = x.factor s

  abbrev pub negation_step : Of Negation-F → Typed SqlType
  negation_step x s = unless_negated x.negated (x.predicate s)

  abbrev pub predicate_step : Of Predicate-F → Typed SqlType
  predicate_step x s = with_tail x.tail s (x.tested s)

  abbrev pub query_step : Of Query-F → Typed (List SqlType)
  query_step x s = option_and_then (united s x.others) (x.first s)

  abbrev pub select_step : Of Select-F → Typed (List SqlType)
  select_step x s = selected_where (all_hold x.from (frame (tables x.from) ∷ s)) (holds x.filter (frame (tables x.from) ∷ s)) (x.list (frame (tables x.from) ∷ s))

  abbrev pub sum_step : Of Sum-F → Typed SqlType
  sum_step x s = sum_of s (x.first s) x.others

  abbrev pub term_step : Of Term-F → Typed SqlType
  term_step x s = product_of s (x.first s) x.others

  unfoldable pub join : Join → Part
  join = fold-Join Part (Typed SqlType) (Typed SqlType) (Typed (List SqlType)) Tested (Additive × Typed SqlType) (Typed SqlType) Part (Typed SqlType) (Typed SqlType) (Typed SqlType) (Typed (List SqlType)) (Typed SqlType) (Typed SqlType) (Typed SqlType) (Typed (List SqlType)) (Typed (List SqlType)) (Typed SqlType) (Typed SqlType) join_step operand_step select_item_step select_list_step tail_step added_step arm_step chain_step conjunction_step expr_step factor_step further_step multiplied_step negation_step predicate_step query_step select_step sum_step term_step

  unfoldable pub operand : Operand → Typed SqlType
  operand = fold-Operand Part (Typed SqlType) (Typed SqlType) (Typed (List SqlType)) Tested (Additive × Typed SqlType) (Typed SqlType) Part (Typed SqlType) (Typed SqlType) (Typed SqlType) (Typed (List SqlType)) (Typed SqlType) (Typed SqlType) (Typed SqlType) (Typed (List SqlType)) (Typed (List SqlType)) (Typed SqlType) (Typed SqlType) join_step operand_step select_item_step select_list_step tail_step added_step arm_step chain_step conjunction_step expr_step factor_step further_step multiplied_step negation_step predicate_step query_step select_step sum_step term_step

  unfoldable pub select_item : SelectItem → Typed SqlType
  select_item = fold-SelectItem Part (Typed SqlType) (Typed SqlType) (Typed (List SqlType)) Tested (Additive × Typed SqlType) (Typed SqlType) Part (Typed SqlType) (Typed SqlType) (Typed SqlType) (Typed (List SqlType)) (Typed SqlType) (Typed SqlType) (Typed SqlType) (Typed (List SqlType)) (Typed (List SqlType)) (Typed SqlType) (Typed SqlType) join_step operand_step select_item_step select_list_step tail_step added_step arm_step chain_step conjunction_step expr_step factor_step further_step multiplied_step negation_step predicate_step query_step select_step sum_step term_step

  unfoldable pub select_list : SelectList → Typed (List SqlType)
  select_list = fold-SelectList Part (Typed SqlType) (Typed SqlType) (Typed (List SqlType)) Tested (Additive × Typed SqlType) (Typed SqlType) Part (Typed SqlType) (Typed SqlType) (Typed SqlType) (Typed (List SqlType)) (Typed SqlType) (Typed SqlType) (Typed SqlType) (Typed (List SqlType)) (Typed (List SqlType)) (Typed SqlType) (Typed SqlType) join_step operand_step select_item_step select_list_step tail_step added_step arm_step chain_step conjunction_step expr_step factor_step further_step multiplied_step negation_step predicate_step query_step select_step sum_step term_step

  unfoldable pub tail : Tail → Tested
  tail = fold-Tail Part (Typed SqlType) (Typed SqlType) (Typed (List SqlType)) Tested (Additive × Typed SqlType) (Typed SqlType) Part (Typed SqlType) (Typed SqlType) (Typed SqlType) (Typed (List SqlType)) (Typed SqlType) (Typed SqlType) (Typed SqlType) (Typed (List SqlType)) (Typed (List SqlType)) (Typed SqlType) (Typed SqlType) join_step operand_step select_item_step select_list_step tail_step added_step arm_step chain_step conjunction_step expr_step factor_step further_step multiplied_step negation_step predicate_step query_step select_step sum_step term_step

  unfoldable pub added : Added → Additive × Typed SqlType
  added = fold-Added Part (Typed SqlType) (Typed SqlType) (Typed (List SqlType)) Tested (Additive × Typed SqlType) (Typed SqlType) Part (Typed SqlType) (Typed SqlType) (Typed SqlType) (Typed (List SqlType)) (Typed SqlType) (Typed SqlType) (Typed SqlType) (Typed (List SqlType)) (Typed (List SqlType)) (Typed SqlType) (Typed SqlType) join_step operand_step select_item_step select_list_step tail_step added_step arm_step chain_step conjunction_step expr_step factor_step further_step multiplied_step negation_step predicate_step query_step select_step sum_step term_step

  unfoldable pub arm : Arm → Typed SqlType
  arm = fold-Arm Part (Typed SqlType) (Typed SqlType) (Typed (List SqlType)) Tested (Additive × Typed SqlType) (Typed SqlType) Part (Typed SqlType) (Typed SqlType) (Typed SqlType) (Typed (List SqlType)) (Typed SqlType) (Typed SqlType) (Typed SqlType) (Typed (List SqlType)) (Typed (List SqlType)) (Typed SqlType) (Typed SqlType) join_step operand_step select_item_step select_list_step tail_step added_step arm_step chain_step conjunction_step expr_step factor_step further_step multiplied_step negation_step predicate_step query_step select_step sum_step term_step

  unfoldable pub chain : Chain → Part
  chain = fold-Chain Part (Typed SqlType) (Typed SqlType) (Typed (List SqlType)) Tested (Additive × Typed SqlType) (Typed SqlType) Part (Typed SqlType) (Typed SqlType) (Typed SqlType) (Typed (List SqlType)) (Typed SqlType) (Typed SqlType) (Typed SqlType) (Typed (List SqlType)) (Typed (List SqlType)) (Typed SqlType) (Typed SqlType) join_step operand_step select_item_step select_list_step tail_step added_step arm_step chain_step conjunction_step expr_step factor_step further_step multiplied_step negation_step predicate_step query_step select_step sum_step term_step

  unfoldable pub conjunction : Conjunction → Typed SqlType
  conjunction = fold-Conjunction Part (Typed SqlType) (Typed SqlType) (Typed (List SqlType)) Tested (Additive × Typed SqlType) (Typed SqlType) Part (Typed SqlType) (Typed SqlType) (Typed SqlType) (Typed (List SqlType)) (Typed SqlType) (Typed SqlType) (Typed SqlType) (Typed (List SqlType)) (Typed (List SqlType)) (Typed SqlType) (Typed SqlType) join_step operand_step select_item_step select_list_step tail_step added_step arm_step chain_step conjunction_step expr_step factor_step further_step multiplied_step negation_step predicate_step query_step select_step sum_step term_step

  unfoldable pub expr : Expr → Typed SqlType
  expr = fold-Expr Part (Typed SqlType) (Typed SqlType) (Typed (List SqlType)) Tested (Additive × Typed SqlType) (Typed SqlType) Part (Typed SqlType) (Typed SqlType) (Typed SqlType) (Typed (List SqlType)) (Typed SqlType) (Typed SqlType) (Typed SqlType) (Typed (List SqlType)) (Typed (List SqlType)) (Typed SqlType) (Typed SqlType) join_step operand_step select_item_step select_list_step tail_step added_step arm_step chain_step conjunction_step expr_step factor_step further_step multiplied_step negation_step predicate_step query_step select_step sum_step term_step

  unfoldable pub factor : Factor → Typed SqlType
  factor = fold-Factor Part (Typed SqlType) (Typed SqlType) (Typed (List SqlType)) Tested (Additive × Typed SqlType) (Typed SqlType) Part (Typed SqlType) (Typed SqlType) (Typed SqlType) (Typed (List SqlType)) (Typed SqlType) (Typed SqlType) (Typed SqlType) (Typed (List SqlType)) (Typed (List SqlType)) (Typed SqlType) (Typed SqlType) join_step operand_step select_item_step select_list_step tail_step added_step arm_step chain_step conjunction_step expr_step factor_step further_step multiplied_step negation_step predicate_step query_step select_step sum_step term_step

  unfoldable pub further : Further → Typed (List SqlType)
  further = fold-Further Part (Typed SqlType) (Typed SqlType) (Typed (List SqlType)) Tested (Additive × Typed SqlType) (Typed SqlType) Part (Typed SqlType) (Typed SqlType) (Typed SqlType) (Typed (List SqlType)) (Typed SqlType) (Typed SqlType) (Typed SqlType) (Typed (List SqlType)) (Typed (List SqlType)) (Typed SqlType) (Typed SqlType) join_step operand_step select_item_step select_list_step tail_step added_step arm_step chain_step conjunction_step expr_step factor_step further_step multiplied_step negation_step predicate_step query_step select_step sum_step term_step

  unfoldable pub multiplied : Multiplied → Typed SqlType
  multiplied = fold-Multiplied Part (Typed SqlType) (Typed SqlType) (Typed (List SqlType)) Tested (Additive × Typed SqlType) (Typed SqlType) Part (Typed SqlType) (Typed SqlType) (Typed SqlType) (Typed (List SqlType)) (Typed SqlType) (Typed SqlType) (Typed SqlType) (Typed (List SqlType)) (Typed (List SqlType)) (Typed SqlType) (Typed SqlType) join_step operand_step select_item_step select_list_step tail_step added_step arm_step chain_step conjunction_step expr_step factor_step further_step multiplied_step negation_step predicate_step query_step select_step sum_step term_step

  unfoldable pub negation : Negation → Typed SqlType
  negation = fold-Negation Part (Typed SqlType) (Typed SqlType) (Typed (List SqlType)) Tested (Additive × Typed SqlType) (Typed SqlType) Part (Typed SqlType) (Typed SqlType) (Typed SqlType) (Typed (List SqlType)) (Typed SqlType) (Typed SqlType) (Typed SqlType) (Typed (List SqlType)) (Typed (List SqlType)) (Typed SqlType) (Typed SqlType) join_step operand_step select_item_step select_list_step tail_step added_step arm_step chain_step conjunction_step expr_step factor_step further_step multiplied_step negation_step predicate_step query_step select_step sum_step term_step

  unfoldable pub predicate : Predicate → Typed SqlType
  predicate = fold-Predicate Part (Typed SqlType) (Typed SqlType) (Typed (List SqlType)) Tested (Additive × Typed SqlType) (Typed SqlType) Part (Typed SqlType) (Typed SqlType) (Typed SqlType) (Typed (List SqlType)) (Typed SqlType) (Typed SqlType) (Typed SqlType) (Typed (List SqlType)) (Typed (List SqlType)) (Typed SqlType) (Typed SqlType) join_step operand_step select_item_step select_list_step tail_step added_step arm_step chain_step conjunction_step expr_step factor_step further_step multiplied_step negation_step predicate_step query_step select_step sum_step term_step

  unfoldable pub query : Query → Typed (List SqlType)
  query = fold-Query Part (Typed SqlType) (Typed SqlType) (Typed (List SqlType)) Tested (Additive × Typed SqlType) (Typed SqlType) Part (Typed SqlType) (Typed SqlType) (Typed SqlType) (Typed (List SqlType)) (Typed SqlType) (Typed SqlType) (Typed SqlType) (Typed (List SqlType)) (Typed (List SqlType)) (Typed SqlType) (Typed SqlType) join_step operand_step select_item_step select_list_step tail_step added_step arm_step chain_step conjunction_step expr_step factor_step further_step multiplied_step negation_step predicate_step query_step select_step sum_step term_step

  unfoldable pub select : Select → Typed (List SqlType)
  select = fold-Select Part (Typed SqlType) (Typed SqlType) (Typed (List SqlType)) Tested (Additive × Typed SqlType) (Typed SqlType) Part (Typed SqlType) (Typed SqlType) (Typed SqlType) (Typed (List SqlType)) (Typed SqlType) (Typed SqlType) (Typed SqlType) (Typed (List SqlType)) (Typed (List SqlType)) (Typed SqlType) (Typed SqlType) join_step operand_step select_item_step select_list_step tail_step added_step arm_step chain_step conjunction_step expr_step factor_step further_step multiplied_step negation_step predicate_step query_step select_step sum_step term_step

  unfoldable pub sum : Sum → Typed SqlType
  sum = fold-Sum Part (Typed SqlType) (Typed SqlType) (Typed (List SqlType)) Tested (Additive × Typed SqlType) (Typed SqlType) Part (Typed SqlType) (Typed SqlType) (Typed SqlType) (Typed (List SqlType)) (Typed SqlType) (Typed SqlType) (Typed SqlType) (Typed (List SqlType)) (Typed (List SqlType)) (Typed SqlType) (Typed SqlType) join_step operand_step select_item_step select_list_step tail_step added_step arm_step chain_step conjunction_step expr_step factor_step further_step multiplied_step negation_step predicate_step query_step select_step sum_step term_step

  unfoldable pub term : Term → Typed SqlType
  term = fold-Term Part (Typed SqlType) (Typed SqlType) (Typed (List SqlType)) Tested (Additive × Typed SqlType) (Typed SqlType) Part (Typed SqlType) (Typed SqlType) (Typed SqlType) (Typed (List SqlType)) (Typed SqlType) (Typed SqlType) (Typed SqlType) (Typed (List SqlType)) (Typed (List SqlType)) (Typed SqlType) (Typed SqlType) join_step operand_step select_item_step select_list_step tail_step added_step arm_step chain_step conjunction_step expr_step factor_step further_step multiplied_step negation_step predicate_step query_step select_step sum_step term_step
