-- The names of a query or an expression, in the order in which they are tried: what resolves, or the first refusal.
use Rattle.std.specs.Prelude.{Bool, List, [], ◌∷◌, map, Option, Ok}
use Rattle.sql_tree.specs.declared.expr.Join.{Join, fold-Join}
use Rattle.sql_tree.specs.declared.expr.Join.TheVariants as joins
use Rattle.sql_tree.specs.declared.expr.Operand.{Operand, fold-Operand}
use Rattle.sql_tree.specs.declared.expr.Operand.TheVariants as operands
use Rattle.sql_tree.specs.declared.expr.SelectItem.{SelectItem, fold-SelectItem}
use Rattle.sql_tree.specs.declared.expr.SelectList.{SelectList, fold-SelectList}
use Rattle.sql_tree.specs.declared.expr.SelectList.TheVariants as lists
use Rattle.sql_tree.specs.declared.expr.Tail.{Tail, fold-Tail}
use Rattle.sql_tree.specs.declared.expr.Tail.TheVariants as tails
use Rattle.sql_tree.specs.declared.expr.Added.{Added, roll-Added, fold-Added}
use Rattle.sql_tree.specs.declared.expr.Arm.{Arm, roll-Arm, fold-Arm}
use Rattle.sql_tree.specs.declared.expr.Chain.{Chain, roll-Chain, fold-Chain}
use Rattle.sql_tree.specs.declared.expr.Conjunction.{Conjunction, roll-Conjunction, fold-Conjunction}
use Rattle.sql_tree.specs.declared.expr.Expr.{Expr, roll-Expr, fold-Expr}
use Rattle.sql_tree.specs.declared.expr.Factor.{Factor, roll-Factor, fold-Factor}
use Rattle.sql_tree.specs.declared.expr.Further.{Further, roll-Further, fold-Further}
use Rattle.sql_tree.specs.declared.expr.Multiplied.{Multiplied, roll-Multiplied, fold-Multiplied}
use Rattle.sql_tree.specs.declared.expr.Negation.{Negation, roll-Negation, fold-Negation}
use Rattle.sql_tree.specs.declared.expr.Predicate.{Predicate, roll-Predicate, fold-Predicate}
use Rattle.sql_tree.specs.declared.expr.Query.{Query, roll-Query, fold-Query}
use Rattle.sql_tree.specs.declared.expr.Select.{Select, roll-Select, fold-Select}
use Rattle.sql_tree.specs.declared.expr.Sum.{Sum, roll-Sum, fold-Sum}
use Rattle.sql_tree.specs.declared.expr.Term.{Term, roll-Term, fold-Term}
use Rattle.sql_names.specs.declared.column.Reference.{Reference}
use Rattle.sql_tree.specs.declared.expr.Join.TheOpen.{Added-F, Arm-F, Chain-F, Conjunction-F, Expr-F, Factor-F, Further-F, Join-F, Multiplied-F, Negation-F, Operand-F, Predicate-F, Query-F, Select-F, SelectItem-F, SelectList-F, Sum-F, Tail-F, Term-F}
use Rattle.name_scopes.specs.declared.scope.Scope.{Scope}
use Rattle.name_scopes.specs.Known.{Known}
use Rattle.name_scopes.specs.Frames.{empty, whole}
use Rattle.name_scopes.specs.Outcomes.{Outcome, ◌>>=◌, Names, Adds, Lists, each, thread, listed, perhaps}
use Rattle.name_scopes.specs.Single.{joined, opened, function, reference, star, table_star, item}

-- a part of a tree whose own parts are already functions of the frames around them
abbrev pub Of : (Type 0 → Type 0 → Type 0 → Type 0 → Type 0 → Type 0 → Type 0 → Type 0 → Type 0 → Type 0 → Type 0 → Type 0 → Type 0 → Type 0 → Type 0 → Type 0 → Type 0 → Type 0 → Type 0 → Type 0) → Type 0
Of F = F (Adds Join) (Names Operand) (Lists SelectItem) (Names SelectList) (Names Tail) (Names Added) (Names Arm) (Adds Chain) (Names Conjunction) (Names Expr) (Names Factor) (Names Further) (Names Multiplied) (Names Negation) (Names Predicate) (Names Query) (Names Select) (Names Sum) (Names Term)

abbrev pub selected : Bool → SelectList → List Chain → Option Expr → Outcome (List Reference) → Outcome Select
selected distinct list from filter groups = do gs ← groups; Ok (roll-Select (record { distinct = distinct; list = list; from = from; filter = filter; group_by = gs }))

module _ (k : Known) (scope : Scope) where
  abbrev pub join_step : Of Join-F → Adds Join
  join_step (Join-F.Inner table on) s = do t ← joined k scope table s; c ← on t.1; Ok (joins.Inner t.0 c, t.1)
  join_step (Join-F.Cross table) s = do t ← joined k scope table s; Ok (joins.Cross t.0, t.1)

  abbrev pub operand_step : Of Operand-F → Names Operand
  operand_step (Operand-F.Literal text) s = Ok (operands.Literal text)
  operand_step (Operand-F.Number text) s = Ok (operands.Number text)
  operand_step Operand-F.True s = Ok (operands.True)
  operand_step Operand-F.False s = Ok (operands.False)
  operand_step (Operand-F.Special special) s = Ok (operands.Special special)
  operand_step Operand-F.Value s = Ok (operands.Value)
  operand_step (Operand-F.Reference r) s = do r' ← reference k scope r s; Ok (operands.Reference r')
  operand_step (Operand-F.Call routine arguments) s = do f ← function k scope routine; es ← each s [] arguments; Ok (operands.Call f es)
  operand_step Operand-F.CountAll s = Ok (operands.CountAll)
  operand_step (Operand-F.Aggregate by argument) s = do e ← argument s; Ok (operands.Aggregate by e)
  operand_step (Operand-F.Case arms otherwise) s = do as' ← each s [] arms; e ← perhaps otherwise s; Ok (operands.Case as' e)
  operand_step (Operand-F.Cast o sort) s = do e ← perhaps o s; Ok (operands.Cast e sort)
  operand_step (Operand-F.Exists q) s = do q' ← q s; Ok (operands.Exists q')
  operand_step (Operand-F.Subquery q) s = do q' ← q s; Ok (operands.Subquery q')
  operand_step (Operand-F.Parenthesized e) s = do e' ← e s; Ok (operands.Parenthesized e')

  abbrev pub select_item_step : Of SelectItem-F → Lists SelectItem
  select_item_step (SelectItem-F.Expr e name) s position = do e' ← e s; Ok (item name e' position ∷ [])
  select_item_step (SelectItem-F.QualifiedStar q) s position = table_star k q s

  abbrev pub select_list_step : Of SelectList-F → Names SelectList
  select_list_step SelectList-F.Star s = do is ← star k s; Ok (lists.Listed is)
  select_list_step (SelectList-F.Listed is) s = do is' ← listed s [] is; Ok (lists.Listed is')

  abbrev pub tail_step : Of Tail-F → Names Tail
  tail_step (Tail-F.Compare by with) s = do x ← with s; Ok (tails.Compare by x)
  tail_step (Tail-F.IsNull negated) s = Ok (tails.IsNull negated)
  tail_step (Tail-F.Between negated low high) s = do x ← low s; y ← high s; Ok (tails.Between negated x y)
  tail_step (Tail-F.InQuery negated q) s = do q' ← q s; Ok (tails.InQuery negated q')
  tail_step (Tail-F.InList negated es) s = do es' ← each s [] es; Ok (tails.InList negated es')
  tail_step (Tail-F.Like negated pattern) s = do x ← pattern s; Ok (tails.Like negated x)

  abbrev pub added_step : Of Added-F → Names Added
  added_step x s = do t ← x.term s; Ok (roll-Added (record { by = x.by; term = t }))

  abbrev pub arm_step : Of Arm-F → Names Arm
  arm_step x s = do c ← x.condition s; v ← x.value s; Ok (roll-Arm (record { condition = c; value = v }))

  abbrev pub chain_step : Of Chain-F → Adds Chain
  chain_step x s = do t ← opened k scope x.first s; js ← thread [] x.joins t.1; Ok (roll-Chain (record { first = t.0; joins = js.0 }), js.1)

  abbrev pub conjunction_step : Of Conjunction-F → Names Conjunction
  conjunction_step x s = do ns ← each s [] x.every; Ok (roll-Conjunction (record { every = ns }))

  abbrev pub expr_step : Of Expr-F → Names Expr
  expr_step x s = do cs ← each s [] x.any; Ok (roll-Expr (record { any = cs }))

  abbrev pub factor_step : Of Factor-F → Names Factor
  factor_step x s = do o ← x.operand s; Ok (roll-Factor (record { minus = x.minus; operand = o }))

  abbrev pub further_step : Of Further-F → Names Further
  further_step x s = do y ← x.select s; Ok (roll-Further (record { by = x.by; all = x.all; select = y }))

  abbrev pub multiplied_step : Of Multiplied-F → Names Multiplied
  multiplied_step x s = do f ← x.factor s; Ok (roll-Multiplied (record { by = x.by; factor = f }))

  abbrev pub negation_step : Of Negation-F → Names Negation
  negation_step x s = do p ← x.predicate s; Ok (roll-Negation (record { negated = x.negated; predicate = p }))

  abbrev pub predicate_step : Of Predicate-F → Names Predicate
  predicate_step x s = do t ← x.tested s; tail ← perhaps x.tail s; Ok (roll-Predicate (record { tested = t; tail = tail }))

  abbrev pub query_step : Of Query-F → Names Query
  query_step x s = do f ← x.first s; os ← each s [] x.others; Ok (roll-Query (record { first = f; others = os }))

  abbrev pub select_step : Of Select-F → Names Select
  select_step x s = do
    from ← thread [] x.from (empty ∷ s)
    list ← x.list (whole from.1)
    filter ← perhaps x.filter (whole from.1)
    selected x.distinct list from.0 filter (each (whole from.1) [] (map (reference k scope) x.group_by))

  abbrev pub sum_step : Of Sum-F → Names Sum
  sum_step x s = do t ← x.first s; os ← each s [] x.others; Ok (roll-Sum (record { first = t; others = os }))

  abbrev pub term_step : Of Term-F → Names Term
  term_step x s = do f ← x.first s; os ← each s [] x.others; Ok (roll-Term (record { first = f; others = os }))

  unfoldable pub join : Join → Adds Join
  join = fold-Join (Adds Join) (Names Operand) (Lists SelectItem) (Names SelectList) (Names Tail) (Names Added) (Names Arm) (Adds Chain) (Names Conjunction) (Names Expr) (Names Factor) (Names Further) (Names Multiplied) (Names Negation) (Names Predicate) (Names Query) (Names Select) (Names Sum) (Names Term) join_step operand_step select_item_step select_list_step tail_step added_step arm_step chain_step conjunction_step expr_step factor_step further_step multiplied_step negation_step predicate_step query_step select_step sum_step term_step

  unfoldable pub operand : Operand → Names Operand
  operand = fold-Operand (Adds Join) (Names Operand) (Lists SelectItem) (Names SelectList) (Names Tail) (Names Added) (Names Arm) (Adds Chain) (Names Conjunction) (Names Expr) (Names Factor) (Names Further) (Names Multiplied) (Names Negation) (Names Predicate) (Names Query) (Names Select) (Names Sum) (Names Term) join_step operand_step select_item_step select_list_step tail_step added_step arm_step chain_step conjunction_step expr_step factor_step further_step multiplied_step negation_step predicate_step query_step select_step sum_step term_step

  unfoldable pub select_item : SelectItem → Lists SelectItem
  select_item = fold-SelectItem (Adds Join) (Names Operand) (Lists SelectItem) (Names SelectList) (Names Tail) (Names Added) (Names Arm) (Adds Chain) (Names Conjunction) (Names Expr) (Names Factor) (Names Further) (Names Multiplied) (Names Negation) (Names Predicate) (Names Query) (Names Select) (Names Sum) (Names Term) join_step operand_step select_item_step select_list_step tail_step added_step arm_step chain_step conjunction_step expr_step factor_step further_step multiplied_step negation_step predicate_step query_step select_step sum_step term_step

  unfoldable pub select_list : SelectList → Names SelectList
  select_list = fold-SelectList (Adds Join) (Names Operand) (Lists SelectItem) (Names SelectList) (Names Tail) (Names Added) (Names Arm) (Adds Chain) (Names Conjunction) (Names Expr) (Names Factor) (Names Further) (Names Multiplied) (Names Negation) (Names Predicate) (Names Query) (Names Select) (Names Sum) (Names Term) join_step operand_step select_item_step select_list_step tail_step added_step arm_step chain_step conjunction_step expr_step factor_step further_step multiplied_step negation_step predicate_step query_step select_step sum_step term_step

  unfoldable pub tail : Tail → Names Tail
  tail = fold-Tail (Adds Join) (Names Operand) (Lists SelectItem) (Names SelectList) (Names Tail) (Names Added) (Names Arm) (Adds Chain) (Names Conjunction) (Names Expr) (Names Factor) (Names Further) (Names Multiplied) (Names Negation) (Names Predicate) (Names Query) (Names Select) (Names Sum) (Names Term) join_step operand_step select_item_step select_list_step tail_step added_step arm_step chain_step conjunction_step expr_step factor_step further_step multiplied_step negation_step predicate_step query_step select_step sum_step term_step

  unfoldable pub added : Added → Names Added
  added = fold-Added (Adds Join) (Names Operand) (Lists SelectItem) (Names SelectList) (Names Tail) (Names Added) (Names Arm) (Adds Chain) (Names Conjunction) (Names Expr) (Names Factor) (Names Further) (Names Multiplied) (Names Negation) (Names Predicate) (Names Query) (Names Select) (Names Sum) (Names Term) join_step operand_step select_item_step select_list_step tail_step added_step arm_step chain_step conjunction_step expr_step factor_step further_step multiplied_step negation_step predicate_step query_step select_step sum_step term_step

  unfoldable pub arm : Arm → Names Arm
  arm = fold-Arm (Adds Join) (Names Operand) (Lists SelectItem) (Names SelectList) (Names Tail) (Names Added) (Names Arm) (Adds Chain) (Names Conjunction) (Names Expr) (Names Factor) (Names Further) (Names Multiplied) (Names Negation) (Names Predicate) (Names Query) (Names Select) (Names Sum) (Names Term) join_step operand_step select_item_step select_list_step tail_step added_step arm_step chain_step conjunction_step expr_step factor_step further_step multiplied_step negation_step predicate_step query_step select_step sum_step term_step

  unfoldable pub chain : Chain → Adds Chain
  chain = fold-Chain (Adds Join) (Names Operand) (Lists SelectItem) (Names SelectList) (Names Tail) (Names Added) (Names Arm) (Adds Chain) (Names Conjunction) (Names Expr) (Names Factor) (Names Further) (Names Multiplied) (Names Negation) (Names Predicate) (Names Query) (Names Select) (Names Sum) (Names Term) join_step operand_step select_item_step select_list_step tail_step added_step arm_step chain_step conjunction_step expr_step factor_step further_step multiplied_step negation_step predicate_step query_step select_step sum_step term_step

  unfoldable pub conjunction : Conjunction → Names Conjunction
  conjunction = fold-Conjunction (Adds Join) (Names Operand) (Lists SelectItem) (Names SelectList) (Names Tail) (Names Added) (Names Arm) (Adds Chain) (Names Conjunction) (Names Expr) (Names Factor) (Names Further) (Names Multiplied) (Names Negation) (Names Predicate) (Names Query) (Names Select) (Names Sum) (Names Term) join_step operand_step select_item_step select_list_step tail_step added_step arm_step chain_step conjunction_step expr_step factor_step further_step multiplied_step negation_step predicate_step query_step select_step sum_step term_step

  unfoldable pub expr : Expr → Names Expr
  expr = fold-Expr (Adds Join) (Names Operand) (Lists SelectItem) (Names SelectList) (Names Tail) (Names Added) (Names Arm) (Adds Chain) (Names Conjunction) (Names Expr) (Names Factor) (Names Further) (Names Multiplied) (Names Negation) (Names Predicate) (Names Query) (Names Select) (Names Sum) (Names Term) join_step operand_step select_item_step select_list_step tail_step added_step arm_step chain_step conjunction_step expr_step factor_step further_step multiplied_step negation_step predicate_step query_step select_step sum_step term_step

  unfoldable pub factor : Factor → Names Factor
  factor = fold-Factor (Adds Join) (Names Operand) (Lists SelectItem) (Names SelectList) (Names Tail) (Names Added) (Names Arm) (Adds Chain) (Names Conjunction) (Names Expr) (Names Factor) (Names Further) (Names Multiplied) (Names Negation) (Names Predicate) (Names Query) (Names Select) (Names Sum) (Names Term) join_step operand_step select_item_step select_list_step tail_step added_step arm_step chain_step conjunction_step expr_step factor_step further_step multiplied_step negation_step predicate_step query_step select_step sum_step term_step

  unfoldable pub further : Further → Names Further
  further = fold-Further (Adds Join) (Names Operand) (Lists SelectItem) (Names SelectList) (Names Tail) (Names Added) (Names Arm) (Adds Chain) (Names Conjunction) (Names Expr) (Names Factor) (Names Further) (Names Multiplied) (Names Negation) (Names Predicate) (Names Query) (Names Select) (Names Sum) (Names Term) join_step operand_step select_item_step select_list_step tail_step added_step arm_step chain_step conjunction_step expr_step factor_step further_step multiplied_step negation_step predicate_step query_step select_step sum_step term_step

  unfoldable pub multiplied : Multiplied → Names Multiplied
  multiplied = fold-Multiplied (Adds Join) (Names Operand) (Lists SelectItem) (Names SelectList) (Names Tail) (Names Added) (Names Arm) (Adds Chain) (Names Conjunction) (Names Expr) (Names Factor) (Names Further) (Names Multiplied) (Names Negation) (Names Predicate) (Names Query) (Names Select) (Names Sum) (Names Term) join_step operand_step select_item_step select_list_step tail_step added_step arm_step chain_step conjunction_step expr_step factor_step further_step multiplied_step negation_step predicate_step query_step select_step sum_step term_step

  unfoldable pub negation : Negation → Names Negation
  negation = fold-Negation (Adds Join) (Names Operand) (Lists SelectItem) (Names SelectList) (Names Tail) (Names Added) (Names Arm) (Adds Chain) (Names Conjunction) (Names Expr) (Names Factor) (Names Further) (Names Multiplied) (Names Negation) (Names Predicate) (Names Query) (Names Select) (Names Sum) (Names Term) join_step operand_step select_item_step select_list_step tail_step added_step arm_step chain_step conjunction_step expr_step factor_step further_step multiplied_step negation_step predicate_step query_step select_step sum_step term_step

  unfoldable pub predicate : Predicate → Names Predicate
  predicate = fold-Predicate (Adds Join) (Names Operand) (Lists SelectItem) (Names SelectList) (Names Tail) (Names Added) (Names Arm) (Adds Chain) (Names Conjunction) (Names Expr) (Names Factor) (Names Further) (Names Multiplied) (Names Negation) (Names Predicate) (Names Query) (Names Select) (Names Sum) (Names Term) join_step operand_step select_item_step select_list_step tail_step added_step arm_step chain_step conjunction_step expr_step factor_step further_step multiplied_step negation_step predicate_step query_step select_step sum_step term_step

  unfoldable pub query : Query → Names Query
  query = fold-Query (Adds Join) (Names Operand) (Lists SelectItem) (Names SelectList) (Names Tail) (Names Added) (Names Arm) (Adds Chain) (Names Conjunction) (Names Expr) (Names Factor) (Names Further) (Names Multiplied) (Names Negation) (Names Predicate) (Names Query) (Names Select) (Names Sum) (Names Term) join_step operand_step select_item_step select_list_step tail_step added_step arm_step chain_step conjunction_step expr_step factor_step further_step multiplied_step negation_step predicate_step query_step select_step sum_step term_step

  unfoldable pub select : Select → Names Select
  select = fold-Select (Adds Join) (Names Operand) (Lists SelectItem) (Names SelectList) (Names Tail) (Names Added) (Names Arm) (Adds Chain) (Names Conjunction) (Names Expr) (Names Factor) (Names Further) (Names Multiplied) (Names Negation) (Names Predicate) (Names Query) (Names Select) (Names Sum) (Names Term) join_step operand_step select_item_step select_list_step tail_step added_step arm_step chain_step conjunction_step expr_step factor_step further_step multiplied_step negation_step predicate_step query_step select_step sum_step term_step

  unfoldable pub sum : Sum → Names Sum
  sum = fold-Sum (Adds Join) (Names Operand) (Lists SelectItem) (Names SelectList) (Names Tail) (Names Added) (Names Arm) (Adds Chain) (Names Conjunction) (Names Expr) (Names Factor) (Names Further) (Names Multiplied) (Names Negation) (Names Predicate) (Names Query) (Names Select) (Names Sum) (Names Term) join_step operand_step select_item_step select_list_step tail_step added_step arm_step chain_step conjunction_step expr_step factor_step further_step multiplied_step negation_step predicate_step query_step select_step sum_step term_step

  unfoldable pub term : Term → Names Term
  term = fold-Term (Adds Join) (Names Operand) (Lists SelectItem) (Names SelectList) (Names Tail) (Names Added) (Names Arm) (Adds Chain) (Names Conjunction) (Names Expr) (Names Factor) (Names Further) (Names Multiplied) (Names Negation) (Names Predicate) (Names Query) (Names Select) (Names Sum) (Names Term) join_step operand_step select_item_step select_list_step tail_step added_step arm_step chain_step conjunction_step expr_step factor_step further_step multiplied_step negation_step predicate_step query_step select_step sum_step term_step
