-- A condition with a resolved reference in each place of VALUE stays resolved.
use Rattle.std.proofs.Common.{◌≡◌, ℕ, ◌<◌, Bool, List, [], ◌∷◌, ◌++◌, Option, Some, None, length, map, rules, arith, sym, subst}
use Rattle.std.specs.Prelude.{option_map}
use Rattle.sql_tree.specs.declared.expr.Join.{Join, roll-Join, map-Join}
use Rattle.sql_tree.specs.declared.expr.Operand.{Operand, roll-Operand, map-Operand}
use Rattle.sql_tree.specs.declared.expr.Operand.TheVariants as operands
use Rattle.sql_tree.specs.declared.expr.SelectItem.{SelectItem, roll-SelectItem, map-SelectItem}
use Rattle.sql_tree.specs.declared.expr.SelectList.{SelectList, roll-SelectList, map-SelectList}
use Rattle.sql_tree.specs.declared.expr.Tail.{Tail, roll-Tail, map-Tail}
use Rattle.sql_tree.specs.declared.expr.Added.{Added, roll-Added, map-Added}
use Rattle.sql_tree.specs.declared.expr.Arm.{Arm, roll-Arm, map-Arm}
use Rattle.sql_tree.specs.declared.expr.Chain.{Chain, roll-Chain, map-Chain}
use Rattle.sql_tree.specs.declared.expr.Conjunction.{Conjunction, roll-Conjunction, map-Conjunction}
use Rattle.sql_tree.specs.declared.expr.Expr.{Expr, roll-Expr, map-Expr, ind-Expr, the_lemmas}
use Rattle.sql_tree.specs.declared.expr.Factor.{Factor, roll-Factor, map-Factor}
use Rattle.sql_tree.specs.declared.expr.Further.{Further, roll-Further, map-Further}
use Rattle.sql_tree.specs.declared.expr.Multiplied.{Multiplied, roll-Multiplied, map-Multiplied}
use Rattle.sql_tree.specs.declared.expr.Negation.{Negation, roll-Negation, map-Negation}
use Rattle.sql_tree.specs.declared.expr.Predicate.{Predicate, roll-Predicate, map-Predicate}
use Rattle.sql_tree.specs.declared.expr.Query.{Query, roll-Query, map-Query}
use Rattle.sql_tree.specs.declared.expr.Select.{Select, roll-Select, map-Select}
use Rattle.sql_tree.specs.declared.expr.Sum.{Sum, roll-Sum, map-Sum}
use Rattle.sql_tree.specs.declared.expr.Term.{Term, roll-Term, map-Term}
use Rattle.sql_tree.specs.declared.expr.Join.TheOpen.{Join-F, Operand-F, SelectItem-F, SelectList-F, Tail-F, Added-F, Arm-F, Chain-F, Conjunction-F, Expr-F, Factor-F, Further-F, Multiplied-F, Negation-F, Predicate-F, Query-F, Select-F, Sum-F, Term-F}
use Rattle.sql_tree.specs.declared.expr.Comparison.{Comparison}
use Rattle.sql_tree.specs.declared.expr.Aggregate.{Aggregate}
use Rattle.sql_tree.specs.declared.expr.Additive.{Additive}
use Rattle.sql_tree.specs.declared.expr.Multiplicative.{Multiplicative}
use Rattle.sql_tree.specs.declared.expr.SetOperator.{SetOperator}
use Rattle.sql_names.specs.declared.sort.SqlType.{SqlType}
use Rattle.sql_names.specs.declared.sort.Special.{Special}
use Rattle.sql_names.specs.declared.column.Reference.{Reference}
use Rattle.sql_names.specs.declared.column.ObjectName.{ObjectName}
use Rattle.sql_names.specs.declared.column.TableReference.{TableReference}
use Rattle.sql_names.specs.NameBytes.{NameBytes}
use Rattle.cat_items.specs.Pieces.{Pieces, IsResolved, of_reference, of_group, all_pieces, some_pieces, optional_pieces, expr_pieces, query_pieces}
use Rattle.resolved_trees.specs.TreePieces.{join_pieces, operand_pieces, select_item_pieces, select_list_pieces, tail_pieces, added_pieces, arm_pieces, chain_pieces, conjunction_pieces, factor_pieces, further_pieces, multiplied_pieces, negation_pieces, predicate_pieces, select_pieces, sum_pieces, term_pieces}
use Rattle.resolved_trees.proofs.Everies.{Every, every_append, every_left, every_right, firsts}
use Rattle.resolved_trees.proofs.PieceEquations.{pieces_of_Operand_Reference, pieces_Join_Inner, pieces_Operand_Call, pieces_Operand_Aggregate, pieces_Operand_Case, pieces_Operand_Cast, pieces_Operand_Exists, pieces_Operand_Subquery, pieces_Operand_Parenthesized, pieces_SelectItem_Expr, pieces_SelectList_Listed, pieces_Tail_Compare, pieces_Tail_Between, pieces_Tail_InQuery, pieces_Tail_InList, pieces_Tail_Like, pieces_Added, pieces_Arm, pieces_Chain, pieces_Conjunction, pieces_Expr, pieces_Factor, pieces_Further, pieces_Multiplied, pieces_Negation, pieces_Predicate, pieces_Query, pieces_Select, pieces_Sum, pieces_Term}
use Rattle.value_columns.specs.Replaced.{replaced_join, replaced_operand, replaced_select_item, replaced_select_list, replaced_tail, replaced_added, replaced_arm, replaced_chain, replaced_conjunction, replaced_expr, replaced_factor, replaced_further, replaced_multiplied, replaced_negation, replaced_predicate, replaced_query, replaced_select, replaced_sum, replaced_term}

abbrev Stand : Pieces → Type 0
Stand pieces = Every IsResolved pieces

abbrev Keeps : {X : Type 0} → (X → Pieces) → (X → X) → X → Type 0
Keeps pieces rep x = Stand (pieces x) → Stand (pieces (rep x))

abbrev KeepsOptional : {X : Type 0} → (X → Pieces) → (X → X) → Option X → Type 0
KeepsOptional pieces rep None = Unit {0}
KeepsOptional pieces rep (Some x) = Keeps pieces rep x

module _ {X : Type 0} (pieces : X → Pieces) (rep : X → X) where
  all_kept : (xs : List X) → Every (Keeps pieces rep) xs → Stand (all_pieces (map pieces xs)) → Stand (all_pieces (map pieces (map rep xs)))
  all_kept [] h f = tt
  all_kept (x ∷ xs) h f = every_append IsResolved (pieces (rep x)) (all_pieces (map pieces (map rep xs))) (h.0 (every_left IsResolved (pieces x) (all_pieces (map pieces xs)) f)) (all_kept xs h.1 (every_right IsResolved (pieces x) (all_pieces (map pieces xs)) f))

  as_long : (xs : List X) → 0 < length (map pieces xs) → 0 < length (map pieces (map rep xs))
  as_long [] low = low
  as_long (x ∷ xs) low = omega arith

  some_kept : (xs : List X) → Every (Keeps pieces rep) xs → Stand (some_pieces (map pieces xs)) → Stand (some_pieces (map pieces (map rep xs)))
  some_kept xs h f = (as_long xs f.0, all_kept xs h f.1)

  perhaps_kept : (o : Option X) → KeepsOptional pieces rep o → Stand (optional_pieces (option_map pieces o)) → Stand (optional_pieces (option_map pieces (option_map rep o)))
  perhaps_kept None h f = tt
  perhaps_kept (Some x) h f = h f

module _ (by : Reference) (stands : IsResolved (of_reference by)) where
  abbrev rep-Join : Join → Join
  rep-Join = replaced_join by

  abbrev rep-Operand : Operand → Operand
  rep-Operand = replaced_operand by

  abbrev rep-SelectItem : SelectItem → SelectItem
  rep-SelectItem = replaced_select_item by

  abbrev rep-SelectList : SelectList → SelectList
  rep-SelectList = replaced_select_list by

  abbrev rep-Tail : Tail → Tail
  rep-Tail = replaced_tail by

  abbrev rep-Added : Added → Added
  rep-Added = replaced_added by

  abbrev rep-Arm : Arm → Arm
  rep-Arm = replaced_arm by

  abbrev rep-Chain : Chain → Chain
  rep-Chain = replaced_chain by

  abbrev rep-Conjunction : Conjunction → Conjunction
  rep-Conjunction = replaced_conjunction by

  abbrev rep-Expr : Expr → Expr
  rep-Expr = replaced_expr by

  abbrev rep-Factor : Factor → Factor
  rep-Factor = replaced_factor by

  abbrev rep-Further : Further → Further
  rep-Further = replaced_further by

  abbrev rep-Multiplied : Multiplied → Multiplied
  rep-Multiplied = replaced_multiplied by

  abbrev rep-Negation : Negation → Negation
  rep-Negation = replaced_negation by

  abbrev rep-Predicate : Predicate → Predicate
  rep-Predicate = replaced_predicate by

  abbrev rep-Query : Query → Query
  rep-Query = replaced_query by

  abbrev rep-Select : Select → Select
  rep-Select = replaced_select by

  abbrev rep-Sum : Sum → Sum
  rep-Sum = replaced_sum by

  abbrev rep-Term : Term → Term
  rep-Term = replaced_term by

  abbrev Keeps-Join : Join → Type 0
  Keeps-Join = Keeps join_pieces rep-Join

  abbrev Keeps-Operand : Operand → Type 0
  Keeps-Operand = Keeps operand_pieces rep-Operand

  abbrev Keeps-SelectItem : SelectItem → Type 0
  Keeps-SelectItem = Keeps select_item_pieces rep-SelectItem

  abbrev Keeps-SelectList : SelectList → Type 0
  Keeps-SelectList = Keeps select_list_pieces rep-SelectList

  abbrev Keeps-Tail : Tail → Type 0
  Keeps-Tail = Keeps tail_pieces rep-Tail

  abbrev Keeps-Added : Added → Type 0
  Keeps-Added = Keeps added_pieces rep-Added

  abbrev Keeps-Arm : Arm → Type 0
  Keeps-Arm = Keeps arm_pieces rep-Arm

  abbrev Keeps-Chain : Chain → Type 0
  Keeps-Chain = Keeps chain_pieces rep-Chain

  abbrev Keeps-Conjunction : Conjunction → Type 0
  Keeps-Conjunction = Keeps conjunction_pieces rep-Conjunction

  abbrev Keeps-Expr : Expr → Type 0
  Keeps-Expr = Keeps expr_pieces rep-Expr

  abbrev Keeps-Factor : Factor → Type 0
  Keeps-Factor = Keeps factor_pieces rep-Factor

  abbrev Keeps-Further : Further → Type 0
  Keeps-Further = Keeps further_pieces rep-Further

  abbrev Keeps-Multiplied : Multiplied → Type 0
  Keeps-Multiplied = Keeps multiplied_pieces rep-Multiplied

  abbrev Keeps-Negation : Negation → Type 0
  Keeps-Negation = Keeps negation_pieces rep-Negation

  abbrev Keeps-Predicate : Predicate → Type 0
  Keeps-Predicate = Keeps predicate_pieces rep-Predicate

  abbrev Keeps-Query : Query → Type 0
  Keeps-Query = Keeps query_pieces rep-Query

  abbrev Keeps-Select : Select → Type 0
  Keeps-Select = Keeps select_pieces rep-Select

  abbrev Keeps-Sum : Sum → Type 0
  Keeps-Sum = Keeps sum_pieces rep-Sum

  abbrev Keeps-Term : Term → Type 0
  Keeps-Term = Keeps term_pieces rep-Term

  rep_Join_Inner : (table' : TableReference) (on' : Expr) → rep-Join (roll-Join (Join-F.Inner table' on')) ≡ (roll-Join (Join-F.Inner table' (rep-Expr on')))
  rep_Join_Inner table' on' = search (rules, the_lemmas)

  keep_Join_Inner : (table' : TableReference) (on' : Expr) → Keeps-Expr on' → Keeps-Join (roll-Join (Join-F.Inner table' on'))
  keep_Join_Inner table' on' h-on formed =
      let f = subst Stand (pieces_Join_Inner table' on') formed in
      subst (λ z. Stand (join_pieces z)) (sym (rep_Join_Inner table' on')) (subst Stand (sym (pieces_Join_Inner table' (rep-Expr on'))) ((f.0, (f.1.0, h-on f.1.1))))

  rep_Join_Cross : (table' : TableReference) → rep-Join (roll-Join (Join-F.Cross table')) ≡ (roll-Join (Join-F.Cross table'))
  rep_Join_Cross table' = search (rules, the_lemmas)

  keep_Join_Cross : (table' : TableReference) → Keeps-Join (roll-Join (Join-F.Cross table'))
  keep_Join_Cross table' formed = subst (λ z. Stand (join_pieces z)) (sym (rep_Join_Cross table')) formed

  rep_Operand_Literal : (text' : List ℕ) → rep-Operand (roll-Operand (Operand-F.Literal text')) ≡ (roll-Operand (Operand-F.Literal text'))
  rep_Operand_Literal text' = search (rules, the_lemmas)

  keep_Operand_Literal : (text' : List ℕ) → Keeps-Operand (roll-Operand (Operand-F.Literal text'))
  keep_Operand_Literal text' formed = subst (λ z. Stand (operand_pieces z)) (sym (rep_Operand_Literal text')) formed

  rep_Operand_Number : (text' : List ℕ) → rep-Operand (roll-Operand (Operand-F.Number text')) ≡ (roll-Operand (Operand-F.Number text'))
  rep_Operand_Number text' = search (rules, the_lemmas)

  keep_Operand_Number : (text' : List ℕ) → Keeps-Operand (roll-Operand (Operand-F.Number text'))
  keep_Operand_Number text' formed = subst (λ z. Stand (operand_pieces z)) (sym (rep_Operand_Number text')) formed

  rep_Operand_True : rep-Operand (roll-Operand Operand-F.True) ≡ (roll-Operand Operand-F.True)
  rep_Operand_True = search (rules, the_lemmas)

  keep_Operand_True : Keeps-Operand (roll-Operand Operand-F.True)
  keep_Operand_True formed = subst (λ z. Stand (operand_pieces z)) (sym rep_Operand_True) formed

  rep_Operand_False : rep-Operand (roll-Operand Operand-F.False) ≡ (roll-Operand Operand-F.False)
  rep_Operand_False = search (rules, the_lemmas)

  keep_Operand_False : Keeps-Operand (roll-Operand Operand-F.False)
  keep_Operand_False formed = subst (λ z. Stand (operand_pieces z)) (sym rep_Operand_False) formed

  rep_Operand_Special : (special' : Special) → rep-Operand (roll-Operand (Operand-F.Special special')) ≡ (roll-Operand (Operand-F.Special special'))
  rep_Operand_Special special' = search (rules, the_lemmas)

  keep_Operand_Special : (special' : Special) → Keeps-Operand (roll-Operand (Operand-F.Special special'))
  keep_Operand_Special special' formed = subst (λ z. Stand (operand_pieces z)) (sym (rep_Operand_Special special')) formed

  rep_Operand_Value : rep-Operand (roll-Operand Operand-F.Value) ≡ (operands.Reference by)
  rep_Operand_Value = search (rules, the_lemmas)

  keep_Operand_Value : Keeps-Operand (roll-Operand Operand-F.Value)
  keep_Operand_Value formed = subst (λ z. Stand (operand_pieces z)) (sym rep_Operand_Value) (subst Stand (sym (pieces_of_Operand_Reference by)) (stands, tt))

  rep_Operand_Reference : (r' : Reference) → rep-Operand (roll-Operand (Operand-F.Reference r')) ≡ (roll-Operand (Operand-F.Reference r'))
  rep_Operand_Reference r' = search (rules, the_lemmas)

  keep_Operand_Reference : (r' : Reference) → Keeps-Operand (roll-Operand (Operand-F.Reference r'))
  keep_Operand_Reference r' formed = subst (λ z. Stand (operand_pieces z)) (sym (rep_Operand_Reference r')) formed

  rep_Operand_Call : (f' : ObjectName) (es' : List Expr) → rep-Operand (roll-Operand (Operand-F.Call f' es')) ≡ (roll-Operand (Operand-F.Call f' (map (rep-Expr) es')))
  rep_Operand_Call f' es' = search (rules, the_lemmas)

  keep_Operand_Call : (f' : ObjectName) (es' : List Expr) → Every Keeps-Expr es' → Keeps-Operand (roll-Operand (Operand-F.Call f' es'))
  keep_Operand_Call f' es' h-es formed =
      let f = subst Stand (pieces_Operand_Call f' es') formed in
      subst (λ z. Stand (operand_pieces z)) (sym (rep_Operand_Call f' es')) (subst Stand (sym (pieces_Operand_Call f' (map (rep-Expr) es'))) ((f.0, all_kept expr_pieces (rep-Expr) es' h-es f.1)))

  rep_Operand_CountAll : rep-Operand (roll-Operand Operand-F.CountAll) ≡ (roll-Operand Operand-F.CountAll)
  rep_Operand_CountAll = search (rules, the_lemmas)

  keep_Operand_CountAll : Keeps-Operand (roll-Operand Operand-F.CountAll)
  keep_Operand_CountAll formed = subst (λ z. Stand (operand_pieces z)) (sym rep_Operand_CountAll) formed

  rep_Operand_Aggregate : (by' : Aggregate) (e' : Expr) → rep-Operand (roll-Operand (Operand-F.Aggregate by' e')) ≡ (roll-Operand (Operand-F.Aggregate by' (rep-Expr e')))
  rep_Operand_Aggregate by' e' = search (rules, the_lemmas)

  keep_Operand_Aggregate : (by' : Aggregate) (e' : Expr) → Keeps-Expr e' → Keeps-Operand (roll-Operand (Operand-F.Aggregate by' e'))
  keep_Operand_Aggregate by' e' h-e formed =
      let f = subst Stand (pieces_Operand_Aggregate by' e') formed in
      subst (λ z. Stand (operand_pieces z)) (sym (rep_Operand_Aggregate by' e')) (subst Stand (sym (pieces_Operand_Aggregate by' (rep-Expr e'))) (h-e f))

  rep_Operand_Case : (arms' : List Arm) (e' : Option Expr) → rep-Operand (roll-Operand (Operand-F.Case arms' e')) ≡ (roll-Operand (Operand-F.Case (map (rep-Arm) arms') (option_map (rep-Expr) e')))
  rep_Operand_Case arms' e' = search (rules, the_lemmas)

  keep_Operand_Case : (arms' : List Arm) (e' : Option Expr) → Every Keeps-Arm arms' → KeepsOptional expr_pieces (rep-Expr) e' → Keeps-Operand (roll-Operand (Operand-F.Case arms' e'))
  keep_Operand_Case arms' e' h-arms h-e formed =
      let f = subst Stand (pieces_Operand_Case arms' e') formed in
      subst (λ z. Stand (operand_pieces z)) (sym (rep_Operand_Case arms' e')) (subst Stand (sym (pieces_Operand_Case (map (rep-Arm) arms') (option_map (rep-Expr) e'))) (every_append IsResolved (some_pieces (map arm_pieces (map (rep-Arm) arms'))) (optional_pieces (option_map expr_pieces (option_map (rep-Expr) e'))) (some_kept arm_pieces (rep-Arm) arms' h-arms (every_left IsResolved (some_pieces (map arm_pieces arms')) (optional_pieces (option_map expr_pieces e')) f)) (perhaps_kept expr_pieces (rep-Expr) e' h-e (every_right IsResolved (some_pieces (map arm_pieces arms')) (optional_pieces (option_map expr_pieces e')) f))))

  rep_Operand_Cast : (e' : Option Expr) (sort' : SqlType) → rep-Operand (roll-Operand (Operand-F.Cast e' sort')) ≡ (roll-Operand (Operand-F.Cast (option_map (rep-Expr) e') sort'))
  rep_Operand_Cast e' sort' = search (rules, the_lemmas)

  keep_Operand_Cast : (e' : Option Expr) (sort' : SqlType) → KeepsOptional expr_pieces (rep-Expr) e' → Keeps-Operand (roll-Operand (Operand-F.Cast e' sort'))
  keep_Operand_Cast e' sort' h-e formed =
      let f = subst Stand (pieces_Operand_Cast e' sort') formed in
      subst (λ z. Stand (operand_pieces z)) (sym (rep_Operand_Cast e' sort')) (subst Stand (sym (pieces_Operand_Cast (option_map (rep-Expr) e') sort')) ((f.0, perhaps_kept expr_pieces (rep-Expr) e' h-e f.1)))

  rep_Operand_Exists : (q' : Query) → rep-Operand (roll-Operand (Operand-F.Exists q')) ≡ (roll-Operand (Operand-F.Exists (rep-Query q')))
  rep_Operand_Exists q' = search (rules, the_lemmas)

  keep_Operand_Exists : (q' : Query) → Keeps-Query q' → Keeps-Operand (roll-Operand (Operand-F.Exists q'))
  keep_Operand_Exists q' h-q formed =
      let f = subst Stand (pieces_Operand_Exists q') formed in
      subst (λ z. Stand (operand_pieces z)) (sym (rep_Operand_Exists q')) (subst Stand (sym (pieces_Operand_Exists (rep-Query q'))) ((f.0, h-q f.1)))

  rep_Operand_Subquery : (q' : Query) → rep-Operand (roll-Operand (Operand-F.Subquery q')) ≡ (roll-Operand (Operand-F.Subquery (rep-Query q')))
  rep_Operand_Subquery q' = search (rules, the_lemmas)

  keep_Operand_Subquery : (q' : Query) → Keeps-Query q' → Keeps-Operand (roll-Operand (Operand-F.Subquery q'))
  keep_Operand_Subquery q' h-q formed =
      let f = subst Stand (pieces_Operand_Subquery q') formed in
      subst (λ z. Stand (operand_pieces z)) (sym (rep_Operand_Subquery q')) (subst Stand (sym (pieces_Operand_Subquery (rep-Query q'))) ((f.0, h-q f.1)))

  rep_Operand_Parenthesized : (e' : Expr) → rep-Operand (roll-Operand (Operand-F.Parenthesized e')) ≡ (roll-Operand (Operand-F.Parenthesized (rep-Expr e')))
  rep_Operand_Parenthesized e' = search (rules, the_lemmas)

  keep_Operand_Parenthesized : (e' : Expr) → Keeps-Expr e' → Keeps-Operand (roll-Operand (Operand-F.Parenthesized e'))
  keep_Operand_Parenthesized e' h-e formed =
      let f = subst Stand (pieces_Operand_Parenthesized e') formed in
      subst (λ z. Stand (operand_pieces z)) (sym (rep_Operand_Parenthesized e')) (subst Stand (sym (pieces_Operand_Parenthesized (rep-Expr e'))) (h-e f))

  rep_SelectItem_Expr : (e' : Expr) (name' : Option NameBytes) → rep-SelectItem (roll-SelectItem (SelectItem-F.Expr e' name')) ≡ (roll-SelectItem (SelectItem-F.Expr (rep-Expr e') name'))
  rep_SelectItem_Expr e' name' = search (rules, the_lemmas)

  keep_SelectItem_Expr : (e' : Expr) (name' : Option NameBytes) → Keeps-Expr e' → Keeps-SelectItem (roll-SelectItem (SelectItem-F.Expr e' name'))
  keep_SelectItem_Expr e' name' h-e formed =
      let f = subst Stand (pieces_SelectItem_Expr e' name') formed in
      subst (λ z. Stand (select_item_pieces z)) (sym (rep_SelectItem_Expr e' name')) (subst Stand (sym (pieces_SelectItem_Expr (rep-Expr e') name')) ((f.0, h-e f.1)))

  rep_SelectItem_QualifiedStar : (q' : NameBytes) → rep-SelectItem (roll-SelectItem (SelectItem-F.QualifiedStar q')) ≡ (roll-SelectItem (SelectItem-F.QualifiedStar q'))
  rep_SelectItem_QualifiedStar q' = search (rules, the_lemmas)

  keep_SelectItem_QualifiedStar : (q' : NameBytes) → Keeps-SelectItem (roll-SelectItem (SelectItem-F.QualifiedStar q'))
  keep_SelectItem_QualifiedStar q' formed = subst (λ z. Stand (select_item_pieces z)) (sym (rep_SelectItem_QualifiedStar q')) formed

  rep_SelectList_Star : rep-SelectList (roll-SelectList SelectList-F.Star) ≡ (roll-SelectList SelectList-F.Star)
  rep_SelectList_Star = search (rules, the_lemmas)

  keep_SelectList_Star : Keeps-SelectList (roll-SelectList SelectList-F.Star)
  keep_SelectList_Star formed = subst (λ z. Stand (select_list_pieces z)) (sym rep_SelectList_Star) formed

  rep_SelectList_Listed : (is' : List SelectItem) → rep-SelectList (roll-SelectList (SelectList-F.Listed is')) ≡ (roll-SelectList (SelectList-F.Listed (map (rep-SelectItem) is')))
  rep_SelectList_Listed is' = search (rules, the_lemmas)

  keep_SelectList_Listed : (is' : List SelectItem) → Every Keeps-SelectItem is' → Keeps-SelectList (roll-SelectList (SelectList-F.Listed is'))
  keep_SelectList_Listed is' h-is formed =
      let f = subst Stand (pieces_SelectList_Listed is') formed in
      subst (λ z. Stand (select_list_pieces z)) (sym (rep_SelectList_Listed is')) (subst Stand (sym (pieces_SelectList_Listed (map (rep-SelectItem) is'))) (some_kept select_item_pieces (rep-SelectItem) is' h-is f))

  rep_Tail_Compare : (by' : Comparison) (x' : Sum) → rep-Tail (roll-Tail (Tail-F.Compare by' x')) ≡ (roll-Tail (Tail-F.Compare by' (rep-Sum x')))
  rep_Tail_Compare by' x' = search (rules, the_lemmas)

  keep_Tail_Compare : (by' : Comparison) (x' : Sum) → Keeps-Sum x' → Keeps-Tail (roll-Tail (Tail-F.Compare by' x'))
  keep_Tail_Compare by' x' h-x formed =
      let f = subst Stand (pieces_Tail_Compare by' x') formed in
      subst (λ z. Stand (tail_pieces z)) (sym (rep_Tail_Compare by' x')) (subst Stand (sym (pieces_Tail_Compare by' (rep-Sum x'))) (h-x f))

  rep_Tail_IsNull : (negated' : Bool) → rep-Tail (roll-Tail (Tail-F.IsNull negated')) ≡ (roll-Tail (Tail-F.IsNull negated'))
  rep_Tail_IsNull negated' = search (rules, the_lemmas)

  keep_Tail_IsNull : (negated' : Bool) → Keeps-Tail (roll-Tail (Tail-F.IsNull negated'))
  keep_Tail_IsNull negated' formed = subst (λ z. Stand (tail_pieces z)) (sym (rep_Tail_IsNull negated')) formed

  rep_Tail_Between : (negated' : Bool) (x' : Sum) (y' : Sum) → rep-Tail (roll-Tail (Tail-F.Between negated' x' y')) ≡ (roll-Tail (Tail-F.Between negated' (rep-Sum x') (rep-Sum y')))
  rep_Tail_Between negated' x' y' = search (rules, the_lemmas)

  keep_Tail_Between : (negated' : Bool) (x' : Sum) (y' : Sum) → Keeps-Sum x' → Keeps-Sum y' → Keeps-Tail (roll-Tail (Tail-F.Between negated' x' y'))
  keep_Tail_Between negated' x' y' h-x h-y formed =
      let f = subst Stand (pieces_Tail_Between negated' x' y') formed in
      subst (λ z. Stand (tail_pieces z)) (sym (rep_Tail_Between negated' x' y')) (subst Stand (sym (pieces_Tail_Between negated' (rep-Sum x') (rep-Sum y'))) (every_append IsResolved (sum_pieces (rep-Sum x')) (sum_pieces (rep-Sum y')) (h-x (every_left IsResolved (sum_pieces x') (sum_pieces y') f)) (h-y (every_right IsResolved (sum_pieces x') (sum_pieces y') f))))

  rep_Tail_InQuery : (negated' : Bool) (q' : Query) → rep-Tail (roll-Tail (Tail-F.InQuery negated' q')) ≡ (roll-Tail (Tail-F.InQuery negated' (rep-Query q')))
  rep_Tail_InQuery negated' q' = search (rules, the_lemmas)

  keep_Tail_InQuery : (negated' : Bool) (q' : Query) → Keeps-Query q' → Keeps-Tail (roll-Tail (Tail-F.InQuery negated' q'))
  keep_Tail_InQuery negated' q' h-q formed =
      let f = subst Stand (pieces_Tail_InQuery negated' q') formed in
      subst (λ z. Stand (tail_pieces z)) (sym (rep_Tail_InQuery negated' q')) (subst Stand (sym (pieces_Tail_InQuery negated' (rep-Query q'))) ((f.0, h-q f.1)))

  rep_Tail_InList : (negated' : Bool) (es' : List Expr) → rep-Tail (roll-Tail (Tail-F.InList negated' es')) ≡ (roll-Tail (Tail-F.InList negated' (map (rep-Expr) es')))
  rep_Tail_InList negated' es' = search (rules, the_lemmas)

  keep_Tail_InList : (negated' : Bool) (es' : List Expr) → Every Keeps-Expr es' → Keeps-Tail (roll-Tail (Tail-F.InList negated' es'))
  keep_Tail_InList negated' es' h-es formed =
      let f = subst Stand (pieces_Tail_InList negated' es') formed in
      subst (λ z. Stand (tail_pieces z)) (sym (rep_Tail_InList negated' es')) (subst Stand (sym (pieces_Tail_InList negated' (map (rep-Expr) es'))) (some_kept expr_pieces (rep-Expr) es' h-es f))

  rep_Tail_Like : (negated' : Bool) (x' : Sum) → rep-Tail (roll-Tail (Tail-F.Like negated' x')) ≡ (roll-Tail (Tail-F.Like negated' (rep-Sum x')))
  rep_Tail_Like negated' x' = search (rules, the_lemmas)

  keep_Tail_Like : (negated' : Bool) (x' : Sum) → Keeps-Sum x' → Keeps-Tail (roll-Tail (Tail-F.Like negated' x'))
  keep_Tail_Like negated' x' h-x formed =
      let f = subst Stand (pieces_Tail_Like negated' x') formed in
      subst (λ z. Stand (tail_pieces z)) (sym (rep_Tail_Like negated' x')) (subst Stand (sym (pieces_Tail_Like negated' (rep-Sum x'))) (h-x f))

  rep_Added : (by' : Additive) (term' : Term) → rep-Added (roll-Added (record { by = by'; term = term' })) ≡ (roll-Added (record { by = by'; term = (rep-Term term') }))
  rep_Added by' term' = search (rules, the_lemmas)

  keep_Added : (by' : Additive) (term' : Term) → Keeps-Term term' → Keeps-Added (roll-Added (record { by = by'; term = term' }))
  keep_Added by' term' h-term formed =
      let f = subst Stand (pieces_Added by' term') formed in
      subst (λ z. Stand (added_pieces z)) (sym (rep_Added by' term')) (subst Stand (sym (pieces_Added by' (rep-Term term'))) (h-term f))

  rep_Arm : (condition' : Expr) (value' : Expr) → rep-Arm (roll-Arm (record { condition = condition'; value = value' })) ≡ (roll-Arm (record { condition = (rep-Expr condition'); value = (rep-Expr value') }))
  rep_Arm condition' value' = search (rules, the_lemmas)

  keep_Arm : (condition' : Expr) (value' : Expr) → Keeps-Expr condition' → Keeps-Expr value' → Keeps-Arm (roll-Arm (record { condition = condition'; value = value' }))
  keep_Arm condition' value' h-condition h-value formed =
      let f = subst Stand (pieces_Arm condition' value') formed in
      subst (λ z. Stand (arm_pieces z)) (sym (rep_Arm condition' value')) (subst Stand (sym (pieces_Arm (rep-Expr condition') (rep-Expr value'))) (every_append IsResolved (expr_pieces (rep-Expr condition')) (expr_pieces (rep-Expr value')) (h-condition (every_left IsResolved (expr_pieces condition') (expr_pieces value') f)) (h-value (every_right IsResolved (expr_pieces condition') (expr_pieces value') f))))

  rep_Chain : (first' : TableReference) (joins' : List Join) → rep-Chain (roll-Chain (record { first = first'; joins = joins' })) ≡ (roll-Chain (record { first = first'; joins = (map (rep-Join) joins') }))
  rep_Chain first' joins' = search (rules, the_lemmas)

  keep_Chain : (first' : TableReference) (joins' : List Join) → Every Keeps-Join joins' → Keeps-Chain (roll-Chain (record { first = first'; joins = joins' }))
  keep_Chain first' joins' h-joins formed =
      let f = subst Stand (pieces_Chain first' joins') formed in
      subst (λ z. Stand (chain_pieces z)) (sym (rep_Chain first' joins')) (subst Stand (sym (pieces_Chain first' (map (rep-Join) joins'))) ((f.0, (f.1.0, all_kept join_pieces (rep-Join) joins' h-joins f.1.1))))

  rep_Conjunction : (every' : List Negation) → rep-Conjunction (roll-Conjunction (record { every = every' })) ≡ (roll-Conjunction (record { every = (map (rep-Negation) every') }))
  rep_Conjunction every' = search (rules, the_lemmas)

  keep_Conjunction : (every' : List Negation) → Every Keeps-Negation every' → Keeps-Conjunction (roll-Conjunction (record { every = every' }))
  keep_Conjunction every' h-every formed =
      let f = subst Stand (pieces_Conjunction every') formed in
      subst (λ z. Stand (conjunction_pieces z)) (sym (rep_Conjunction every')) (subst Stand (sym (pieces_Conjunction (map (rep-Negation) every'))) (some_kept negation_pieces (rep-Negation) every' h-every f))

  rep_Expr : (any' : List Conjunction) → rep-Expr (roll-Expr (record { any = any' })) ≡ (roll-Expr (record { any = (map (rep-Conjunction) any') }))
  rep_Expr any' = search (rules, the_lemmas)

  keep_Expr : (any' : List Conjunction) → Every Keeps-Conjunction any' → Keeps-Expr (roll-Expr (record { any = any' }))
  keep_Expr any' h-any formed =
      let f = subst Stand (pieces_Expr any') formed in
      subst (λ z. Stand (expr_pieces z)) (sym (rep_Expr any')) (subst Stand (sym (pieces_Expr (map (rep-Conjunction) any'))) (some_kept conjunction_pieces (rep-Conjunction) any' h-any f))

  rep_Factor : (minus' : Bool) (operand' : Operand) → rep-Factor (roll-Factor (record { minus = minus'; operand = operand' })) ≡ (roll-Factor (record { minus = minus'; operand = (rep-Operand operand') }))
  rep_Factor minus' operand' = search (rules, the_lemmas)

  keep_Factor : (minus' : Bool) (operand' : Operand) → Keeps-Operand operand' → Keeps-Factor (roll-Factor (record { minus = minus'; operand = operand' }))
  keep_Factor minus' operand' h-operand formed =
      let f = subst Stand (pieces_Factor minus' operand') formed in
      subst (λ z. Stand (factor_pieces z)) (sym (rep_Factor minus' operand')) (subst Stand (sym (pieces_Factor minus' (rep-Operand operand'))) (h-operand f))

  rep_Further : (by' : SetOperator) (all' : Bool) (select' : Select) → rep-Further (roll-Further (record { by = by'; all = all'; select = select' })) ≡ (roll-Further (record { by = by'; all = all'; select = (rep-Select select') }))
  rep_Further by' all' select' = search (rules, the_lemmas)

  keep_Further : (by' : SetOperator) (all' : Bool) (select' : Select) → Keeps-Select select' → Keeps-Further (roll-Further (record { by = by'; all = all'; select = select' }))
  keep_Further by' all' select' h-select formed =
      let f = subst Stand (pieces_Further by' all' select') formed in
      subst (λ z. Stand (further_pieces z)) (sym (rep_Further by' all' select')) (subst Stand (sym (pieces_Further by' all' (rep-Select select'))) (h-select f))

  rep_Multiplied : (by' : Multiplicative) (factor' : Factor) → rep-Multiplied (roll-Multiplied (record { by = by'; factor = factor' })) ≡ (roll-Multiplied (record { by = by'; factor = (rep-Factor factor') }))
  rep_Multiplied by' factor' = search (rules, the_lemmas)

  keep_Multiplied : (by' : Multiplicative) (factor' : Factor) → Keeps-Factor factor' → Keeps-Multiplied (roll-Multiplied (record { by = by'; factor = factor' }))
  keep_Multiplied by' factor' h-factor formed =
      let f = subst Stand (pieces_Multiplied by' factor') formed in
      subst (λ z. Stand (multiplied_pieces z)) (sym (rep_Multiplied by' factor')) (subst Stand (sym (pieces_Multiplied by' (rep-Factor factor'))) (h-factor f))

  rep_Negation : (negated' : Bool) (predicate' : Predicate) → rep-Negation (roll-Negation (record { negated = negated'; predicate = predicate' })) ≡ (roll-Negation (record { negated = negated'; predicate = (rep-Predicate predicate') }))
  rep_Negation negated' predicate' = search (rules, the_lemmas)

  keep_Negation : (negated' : Bool) (predicate' : Predicate) → Keeps-Predicate predicate' → Keeps-Negation (roll-Negation (record { negated = negated'; predicate = predicate' }))
  keep_Negation negated' predicate' h-predicate formed =
      let f = subst Stand (pieces_Negation negated' predicate') formed in
      subst (λ z. Stand (negation_pieces z)) (sym (rep_Negation negated' predicate')) (subst Stand (sym (pieces_Negation negated' (rep-Predicate predicate'))) (h-predicate f))

  rep_Predicate : (tested' : Sum) (tail' : Option Tail) → rep-Predicate (roll-Predicate (record { tested = tested'; tail = tail' })) ≡ (roll-Predicate (record { tested = (rep-Sum tested'); tail = (option_map (rep-Tail) tail') }))
  rep_Predicate tested' tail' = search (rules, the_lemmas)

  keep_Predicate : (tested' : Sum) (tail' : Option Tail) → Keeps-Sum tested' → KeepsOptional tail_pieces (rep-Tail) tail' → Keeps-Predicate (roll-Predicate (record { tested = tested'; tail = tail' }))
  keep_Predicate tested' tail' h-tested h-tail formed =
      let f = subst Stand (pieces_Predicate tested' tail') formed in
      subst (λ z. Stand (predicate_pieces z)) (sym (rep_Predicate tested' tail')) (subst Stand (sym (pieces_Predicate (rep-Sum tested') (option_map (rep-Tail) tail'))) (every_append IsResolved (sum_pieces (rep-Sum tested')) (optional_pieces (option_map tail_pieces (option_map (rep-Tail) tail'))) (h-tested (every_left IsResolved (sum_pieces tested') (optional_pieces (option_map tail_pieces tail')) f)) (perhaps_kept tail_pieces (rep-Tail) tail' h-tail (every_right IsResolved (sum_pieces tested') (optional_pieces (option_map tail_pieces tail')) f))))

  rep_Query : (first' : Select) (others' : List Further) → rep-Query (roll-Query (record { first = first'; others = others' })) ≡ (roll-Query (record { first = (rep-Select first'); others = (map (rep-Further) others') }))
  rep_Query first' others' = search (rules, the_lemmas)

  keep_Query : (first' : Select) (others' : List Further) → Keeps-Select first' → Every Keeps-Further others' → Keeps-Query (roll-Query (record { first = first'; others = others' }))
  keep_Query first' others' h-first h-others formed =
      let f = subst Stand (pieces_Query first' others') formed in
      subst (λ z. Stand (query_pieces z)) (sym (rep_Query first' others')) (subst Stand (sym (pieces_Query (rep-Select first') (map (rep-Further) others'))) (every_append IsResolved (select_pieces (rep-Select first')) (all_pieces (map further_pieces (map (rep-Further) others'))) (h-first (every_left IsResolved (select_pieces first') (all_pieces (map further_pieces others')) f)) (all_kept further_pieces (rep-Further) others' h-others (every_right IsResolved (select_pieces first') (all_pieces (map further_pieces others')) f))))

  rep_Select : (distinct' : Bool) (list' : SelectList) (from' : List Chain) (filter' : Option Expr) (group_by' : List Reference) → rep-Select (roll-Select (record { distinct = distinct'; list = list'; from = from'; filter = filter'; group_by = group_by' })) ≡ (roll-Select (record { distinct = distinct'; list = (rep-SelectList list'); from = (map (rep-Chain) from'); filter = (option_map (rep-Expr) filter'); group_by = group_by' }))
  rep_Select distinct' list' from' filter' group_by' = search (rules, the_lemmas)

  keep_Select : (distinct' : Bool) (list' : SelectList) (from' : List Chain) (filter' : Option Expr) (group_by' : List Reference) → Keeps-SelectList list' → Every Keeps-Chain from' → KeepsOptional expr_pieces (rep-Expr) filter' → Keeps-Select (roll-Select (record { distinct = distinct'; list = list'; from = from'; filter = filter'; group_by = group_by' }))
  keep_Select distinct' list' from' filter' group_by' h-list h-from h-filter formed =
      let f = subst Stand (pieces_Select distinct' list' from' filter' group_by') formed in
      subst (λ z. Stand (select_pieces z)) (sym (rep_Select distinct' list' from' filter' group_by')) (subst Stand (sym (pieces_Select distinct' (rep-SelectList list') (map (rep-Chain) from') (option_map (rep-Expr) filter') group_by')) (every_append IsResolved (((select_list_pieces (rep-SelectList list')) ++ (some_pieces (map chain_pieces (map (rep-Chain) from')))) ++ (optional_pieces (option_map expr_pieces (option_map (rep-Expr) filter')))) (map of_group group_by') (every_append IsResolved ((select_list_pieces (rep-SelectList list')) ++ (some_pieces (map chain_pieces (map (rep-Chain) from')))) (optional_pieces (option_map expr_pieces (option_map (rep-Expr) filter'))) (every_append IsResolved (select_list_pieces (rep-SelectList list')) (some_pieces (map chain_pieces (map (rep-Chain) from'))) (h-list (every_left IsResolved (select_list_pieces list') (some_pieces (map chain_pieces from')) (every_left IsResolved ((select_list_pieces list') ++ (some_pieces (map chain_pieces from'))) (optional_pieces (option_map expr_pieces filter')) (every_left IsResolved (((select_list_pieces list') ++ (some_pieces (map chain_pieces from'))) ++ (optional_pieces (option_map expr_pieces filter'))) (map of_group group_by') f)))) (some_kept chain_pieces (rep-Chain) from' h-from (every_right IsResolved (select_list_pieces list') (some_pieces (map chain_pieces from')) (every_left IsResolved ((select_list_pieces list') ++ (some_pieces (map chain_pieces from'))) (optional_pieces (option_map expr_pieces filter')) (every_left IsResolved (((select_list_pieces list') ++ (some_pieces (map chain_pieces from'))) ++ (optional_pieces (option_map expr_pieces filter'))) (map of_group group_by') f))))) (perhaps_kept expr_pieces (rep-Expr) filter' h-filter (every_right IsResolved ((select_list_pieces list') ++ (some_pieces (map chain_pieces from'))) (optional_pieces (option_map expr_pieces filter')) (every_left IsResolved (((select_list_pieces list') ++ (some_pieces (map chain_pieces from'))) ++ (optional_pieces (option_map expr_pieces filter'))) (map of_group group_by') f)))) (every_right IsResolved (((select_list_pieces list') ++ (some_pieces (map chain_pieces from'))) ++ (optional_pieces (option_map expr_pieces filter'))) (map of_group group_by') f)))

  rep_Sum : (first' : Term) (others' : List Added) → rep-Sum (roll-Sum (record { first = first'; others = others' })) ≡ (roll-Sum (record { first = (rep-Term first'); others = (map (rep-Added) others') }))
  rep_Sum first' others' = search (rules, the_lemmas)

  keep_Sum : (first' : Term) (others' : List Added) → Keeps-Term first' → Every Keeps-Added others' → Keeps-Sum (roll-Sum (record { first = first'; others = others' }))
  keep_Sum first' others' h-first h-others formed =
      let f = subst Stand (pieces_Sum first' others') formed in
      subst (λ z. Stand (sum_pieces z)) (sym (rep_Sum first' others')) (subst Stand (sym (pieces_Sum (rep-Term first') (map (rep-Added) others'))) (every_append IsResolved (term_pieces (rep-Term first')) (all_pieces (map added_pieces (map (rep-Added) others'))) (h-first (every_left IsResolved (term_pieces first') (all_pieces (map added_pieces others')) f)) (all_kept added_pieces (rep-Added) others' h-others (every_right IsResolved (term_pieces first') (all_pieces (map added_pieces others')) f))))

  rep_Term : (first' : Factor) (others' : List Multiplied) → rep-Term (roll-Term (record { first = first'; others = others' })) ≡ (roll-Term (record { first = (rep-Factor first'); others = (map (rep-Multiplied) others') }))
  rep_Term first' others' = search (rules, the_lemmas)

  keep_Term : (first' : Factor) (others' : List Multiplied) → Keeps-Factor first' → Every Keeps-Multiplied others' → Keeps-Term (roll-Term (record { first = first'; others = others' }))
  keep_Term first' others' h-first h-others formed =
      let f = subst Stand (pieces_Term first' others') formed in
      subst (λ z. Stand (term_pieces z)) (sym (rep_Term first' others')) (subst Stand (sym (pieces_Term (rep-Factor first') (map (rep-Multiplied) others'))) (every_append IsResolved (factor_pieces (rep-Factor first')) (all_pieces (map multiplied_pieces (map (rep-Multiplied) others'))) (h-first (every_left IsResolved (factor_pieces first') (all_pieces (map multiplied_pieces others')) f)) (all_kept multiplied_pieces (rep-Multiplied) others' h-others (every_right IsResolved (factor_pieces first') (all_pieces (map multiplied_pieces others')) f))))

  abbrev Of : (Type 0 → Type 0 → Type 0 → Type 0 → Type 0 → Type 0 → Type 0 → Type 0 → Type 0 → Type 0 → Type 0 → Type 0 → Type 0 → Type 0 → Type 0 → Type 0 → Type 0 → Type 0 → Type 0 → Type 0) → Type 0
  Of L = L ((x : Join) × Keeps-Join x) ((x : Operand) × Keeps-Operand x) ((x : SelectItem) × Keeps-SelectItem x) ((x : SelectList) × Keeps-SelectList x) ((x : Tail) × Keeps-Tail x) ((x : Added) × Keeps-Added x) ((x : Arm) × Keeps-Arm x) ((x : Chain) × Keeps-Chain x) ((x : Conjunction) × Keeps-Conjunction x) ((x : Expr) × Keeps-Expr x) ((x : Factor) × Keeps-Factor x) ((x : Further) × Keeps-Further x) ((x : Multiplied) × Keeps-Multiplied x) ((x : Negation) × Keeps-Negation x) ((x : Predicate) × Keeps-Predicate x) ((x : Query) × Keeps-Query x) ((x : Select) × Keeps-Select x) ((x : Sum) × Keeps-Sum x) ((x : Term) × Keeps-Term x)

  step_Join : (y : Of Join-F) → Keeps-Join (roll-Join (map-Join ((x : Join) × Keeps-Join x) ((x : Operand) × Keeps-Operand x) ((x : SelectItem) × Keeps-SelectItem x) ((x : SelectList) × Keeps-SelectList x) ((x : Tail) × Keeps-Tail x) ((x : Added) × Keeps-Added x) ((x : Arm) × Keeps-Arm x) ((x : Chain) × Keeps-Chain x) ((x : Conjunction) × Keeps-Conjunction x) ((x : Expr) × Keeps-Expr x) ((x : Factor) × Keeps-Factor x) ((x : Further) × Keeps-Further x) ((x : Multiplied) × Keeps-Multiplied x) ((x : Negation) × Keeps-Negation x) ((x : Predicate) × Keeps-Predicate x) ((x : Query) × Keeps-Query x) ((x : Select) × Keeps-Select x) ((x : Sum) × Keeps-Sum x) ((x : Term) × Keeps-Term x) Join Operand SelectItem SelectList Tail Added Arm Chain Conjunction Expr Factor Further Multiplied Negation Predicate Query Select Sum Term (λ e. e.0) (λ e. e.0) (λ e. e.0) (λ e. e.0) (λ e. e.0) (λ e. e.0) (λ e. e.0) (λ e. e.0) (λ e. e.0) (λ e. e.0) (λ e. e.0) (λ e. e.0) (λ e. e.0) (λ e. e.0) (λ e. e.0) (λ e. e.0) (λ e. e.0) (λ e. e.0) (λ e. e.0) y))
  step_Join (Join-F.Inner table' on') = keep_Join_Inner table' on'.0 on'.1
  step_Join (Join-F.Cross table') = keep_Join_Cross table'

  step_Operand : (y : Of Operand-F) → Keeps-Operand (roll-Operand (map-Operand ((x : Join) × Keeps-Join x) ((x : Operand) × Keeps-Operand x) ((x : SelectItem) × Keeps-SelectItem x) ((x : SelectList) × Keeps-SelectList x) ((x : Tail) × Keeps-Tail x) ((x : Added) × Keeps-Added x) ((x : Arm) × Keeps-Arm x) ((x : Chain) × Keeps-Chain x) ((x : Conjunction) × Keeps-Conjunction x) ((x : Expr) × Keeps-Expr x) ((x : Factor) × Keeps-Factor x) ((x : Further) × Keeps-Further x) ((x : Multiplied) × Keeps-Multiplied x) ((x : Negation) × Keeps-Negation x) ((x : Predicate) × Keeps-Predicate x) ((x : Query) × Keeps-Query x) ((x : Select) × Keeps-Select x) ((x : Sum) × Keeps-Sum x) ((x : Term) × Keeps-Term x) Join Operand SelectItem SelectList Tail Added Arm Chain Conjunction Expr Factor Further Multiplied Negation Predicate Query Select Sum Term (λ e. e.0) (λ e. e.0) (λ e. e.0) (λ e. e.0) (λ e. e.0) (λ e. e.0) (λ e. e.0) (λ e. e.0) (λ e. e.0) (λ e. e.0) (λ e. e.0) (λ e. e.0) (λ e. e.0) (λ e. e.0) (λ e. e.0) (λ e. e.0) (λ e. e.0) (λ e. e.0) (λ e. e.0) y))
  step_Operand (Operand-F.Literal text') = keep_Operand_Literal text'
  step_Operand (Operand-F.Number text') = keep_Operand_Number text'
  step_Operand Operand-F.True = keep_Operand_True
  step_Operand Operand-F.False = keep_Operand_False
  step_Operand (Operand-F.Special special') = keep_Operand_Special special'
  step_Operand Operand-F.Value = keep_Operand_Value
  step_Operand (Operand-F.Reference r') = keep_Operand_Reference r'
  step_Operand (Operand-F.Call f' es') = keep_Operand_Call f' (map (λ e. e.0) es') (firsts Keeps-Expr es')
  step_Operand Operand-F.CountAll = keep_Operand_CountAll
  step_Operand (Operand-F.Aggregate by' e') = keep_Operand_Aggregate by' e'.0 e'.1
  step_Operand (Operand-F.Case arms' None) = keep_Operand_Case (map (λ e. e.0) arms') None (firsts Keeps-Arm arms') tt
  step_Operand (Operand-F.Case arms' (Some o)) = keep_Operand_Case (map (λ e. e.0) arms') (Some o.0) (firsts Keeps-Arm arms') o.1
  step_Operand (Operand-F.Cast None sort') = keep_Operand_Cast None sort' tt
  step_Operand (Operand-F.Cast (Some o) sort') = keep_Operand_Cast (Some o.0) sort' o.1
  step_Operand (Operand-F.Exists q') = keep_Operand_Exists q'.0 q'.1
  step_Operand (Operand-F.Subquery q') = keep_Operand_Subquery q'.0 q'.1
  step_Operand (Operand-F.Parenthesized e') = keep_Operand_Parenthesized e'.0 e'.1

  step_SelectItem : (y : Of SelectItem-F) → Keeps-SelectItem (roll-SelectItem (map-SelectItem ((x : Join) × Keeps-Join x) ((x : Operand) × Keeps-Operand x) ((x : SelectItem) × Keeps-SelectItem x) ((x : SelectList) × Keeps-SelectList x) ((x : Tail) × Keeps-Tail x) ((x : Added) × Keeps-Added x) ((x : Arm) × Keeps-Arm x) ((x : Chain) × Keeps-Chain x) ((x : Conjunction) × Keeps-Conjunction x) ((x : Expr) × Keeps-Expr x) ((x : Factor) × Keeps-Factor x) ((x : Further) × Keeps-Further x) ((x : Multiplied) × Keeps-Multiplied x) ((x : Negation) × Keeps-Negation x) ((x : Predicate) × Keeps-Predicate x) ((x : Query) × Keeps-Query x) ((x : Select) × Keeps-Select x) ((x : Sum) × Keeps-Sum x) ((x : Term) × Keeps-Term x) Join Operand SelectItem SelectList Tail Added Arm Chain Conjunction Expr Factor Further Multiplied Negation Predicate Query Select Sum Term (λ e. e.0) (λ e. e.0) (λ e. e.0) (λ e. e.0) (λ e. e.0) (λ e. e.0) (λ e. e.0) (λ e. e.0) (λ e. e.0) (λ e. e.0) (λ e. e.0) (λ e. e.0) (λ e. e.0) (λ e. e.0) (λ e. e.0) (λ e. e.0) (λ e. e.0) (λ e. e.0) (λ e. e.0) y))
  step_SelectItem (SelectItem-F.Expr e' name') = keep_SelectItem_Expr e'.0 name' e'.1
  step_SelectItem (SelectItem-F.QualifiedStar q') = keep_SelectItem_QualifiedStar q'

  step_SelectList : (y : Of SelectList-F) → Keeps-SelectList (roll-SelectList (map-SelectList ((x : Join) × Keeps-Join x) ((x : Operand) × Keeps-Operand x) ((x : SelectItem) × Keeps-SelectItem x) ((x : SelectList) × Keeps-SelectList x) ((x : Tail) × Keeps-Tail x) ((x : Added) × Keeps-Added x) ((x : Arm) × Keeps-Arm x) ((x : Chain) × Keeps-Chain x) ((x : Conjunction) × Keeps-Conjunction x) ((x : Expr) × Keeps-Expr x) ((x : Factor) × Keeps-Factor x) ((x : Further) × Keeps-Further x) ((x : Multiplied) × Keeps-Multiplied x) ((x : Negation) × Keeps-Negation x) ((x : Predicate) × Keeps-Predicate x) ((x : Query) × Keeps-Query x) ((x : Select) × Keeps-Select x) ((x : Sum) × Keeps-Sum x) ((x : Term) × Keeps-Term x) Join Operand SelectItem SelectList Tail Added Arm Chain Conjunction Expr Factor Further Multiplied Negation Predicate Query Select Sum Term (λ e. e.0) (λ e. e.0) (λ e. e.0) (λ e. e.0) (λ e. e.0) (λ e. e.0) (λ e. e.0) (λ e. e.0) (λ e. e.0) (λ e. e.0) (λ e. e.0) (λ e. e.0) (λ e. e.0) (λ e. e.0) (λ e. e.0) (λ e. e.0) (λ e. e.0) (λ e. e.0) (λ e. e.0) y))
  step_SelectList SelectList-F.Star = keep_SelectList_Star
  step_SelectList (SelectList-F.Listed is') = keep_SelectList_Listed (map (λ e. e.0) is') (firsts Keeps-SelectItem is')

  step_Tail : (y : Of Tail-F) → Keeps-Tail (roll-Tail (map-Tail ((x : Join) × Keeps-Join x) ((x : Operand) × Keeps-Operand x) ((x : SelectItem) × Keeps-SelectItem x) ((x : SelectList) × Keeps-SelectList x) ((x : Tail) × Keeps-Tail x) ((x : Added) × Keeps-Added x) ((x : Arm) × Keeps-Arm x) ((x : Chain) × Keeps-Chain x) ((x : Conjunction) × Keeps-Conjunction x) ((x : Expr) × Keeps-Expr x) ((x : Factor) × Keeps-Factor x) ((x : Further) × Keeps-Further x) ((x : Multiplied) × Keeps-Multiplied x) ((x : Negation) × Keeps-Negation x) ((x : Predicate) × Keeps-Predicate x) ((x : Query) × Keeps-Query x) ((x : Select) × Keeps-Select x) ((x : Sum) × Keeps-Sum x) ((x : Term) × Keeps-Term x) Join Operand SelectItem SelectList Tail Added Arm Chain Conjunction Expr Factor Further Multiplied Negation Predicate Query Select Sum Term (λ e. e.0) (λ e. e.0) (λ e. e.0) (λ e. e.0) (λ e. e.0) (λ e. e.0) (λ e. e.0) (λ e. e.0) (λ e. e.0) (λ e. e.0) (λ e. e.0) (λ e. e.0) (λ e. e.0) (λ e. e.0) (λ e. e.0) (λ e. e.0) (λ e. e.0) (λ e. e.0) (λ e. e.0) y))
  step_Tail (Tail-F.Compare by' x') = keep_Tail_Compare by' x'.0 x'.1
  step_Tail (Tail-F.IsNull negated') = keep_Tail_IsNull negated'
  step_Tail (Tail-F.Between negated' x' y') = keep_Tail_Between negated' x'.0 y'.0 x'.1 y'.1
  step_Tail (Tail-F.InQuery negated' q') = keep_Tail_InQuery negated' q'.0 q'.1
  step_Tail (Tail-F.InList negated' es') = keep_Tail_InList negated' (map (λ e. e.0) es') (firsts Keeps-Expr es')
  step_Tail (Tail-F.Like negated' x') = keep_Tail_Like negated' x'.0 x'.1

  step_Added : (y : Of Added-F) → Keeps-Added (roll-Added (map-Added ((x : Join) × Keeps-Join x) ((x : Operand) × Keeps-Operand x) ((x : SelectItem) × Keeps-SelectItem x) ((x : SelectList) × Keeps-SelectList x) ((x : Tail) × Keeps-Tail x) ((x : Added) × Keeps-Added x) ((x : Arm) × Keeps-Arm x) ((x : Chain) × Keeps-Chain x) ((x : Conjunction) × Keeps-Conjunction x) ((x : Expr) × Keeps-Expr x) ((x : Factor) × Keeps-Factor x) ((x : Further) × Keeps-Further x) ((x : Multiplied) × Keeps-Multiplied x) ((x : Negation) × Keeps-Negation x) ((x : Predicate) × Keeps-Predicate x) ((x : Query) × Keeps-Query x) ((x : Select) × Keeps-Select x) ((x : Sum) × Keeps-Sum x) ((x : Term) × Keeps-Term x) Join Operand SelectItem SelectList Tail Added Arm Chain Conjunction Expr Factor Further Multiplied Negation Predicate Query Select Sum Term (λ e. e.0) (λ e. e.0) (λ e. e.0) (λ e. e.0) (λ e. e.0) (λ e. e.0) (λ e. e.0) (λ e. e.0) (λ e. e.0) (λ e. e.0) (λ e. e.0) (λ e. e.0) (λ e. e.0) (λ e. e.0) (λ e. e.0) (λ e. e.0) (λ e. e.0) (λ e. e.0) (λ e. e.0) y))
  step_Added y = keep_Added y.by y.term.0 y.term.1

  step_Arm : (y : Of Arm-F) → Keeps-Arm (roll-Arm (map-Arm ((x : Join) × Keeps-Join x) ((x : Operand) × Keeps-Operand x) ((x : SelectItem) × Keeps-SelectItem x) ((x : SelectList) × Keeps-SelectList x) ((x : Tail) × Keeps-Tail x) ((x : Added) × Keeps-Added x) ((x : Arm) × Keeps-Arm x) ((x : Chain) × Keeps-Chain x) ((x : Conjunction) × Keeps-Conjunction x) ((x : Expr) × Keeps-Expr x) ((x : Factor) × Keeps-Factor x) ((x : Further) × Keeps-Further x) ((x : Multiplied) × Keeps-Multiplied x) ((x : Negation) × Keeps-Negation x) ((x : Predicate) × Keeps-Predicate x) ((x : Query) × Keeps-Query x) ((x : Select) × Keeps-Select x) ((x : Sum) × Keeps-Sum x) ((x : Term) × Keeps-Term x) Join Operand SelectItem SelectList Tail Added Arm Chain Conjunction Expr Factor Further Multiplied Negation Predicate Query Select Sum Term (λ e. e.0) (λ e. e.0) (λ e. e.0) (λ e. e.0) (λ e. e.0) (λ e. e.0) (λ e. e.0) (λ e. e.0) (λ e. e.0) (λ e. e.0) (λ e. e.0) (λ e. e.0) (λ e. e.0) (λ e. e.0) (λ e. e.0) (λ e. e.0) (λ e. e.0) (λ e. e.0) (λ e. e.0) y))
  step_Arm y = keep_Arm y.condition.0 y.value.0 y.condition.1 y.value.1

  step_Chain : (y : Of Chain-F) → Keeps-Chain (roll-Chain (map-Chain ((x : Join) × Keeps-Join x) ((x : Operand) × Keeps-Operand x) ((x : SelectItem) × Keeps-SelectItem x) ((x : SelectList) × Keeps-SelectList x) ((x : Tail) × Keeps-Tail x) ((x : Added) × Keeps-Added x) ((x : Arm) × Keeps-Arm x) ((x : Chain) × Keeps-Chain x) ((x : Conjunction) × Keeps-Conjunction x) ((x : Expr) × Keeps-Expr x) ((x : Factor) × Keeps-Factor x) ((x : Further) × Keeps-Further x) ((x : Multiplied) × Keeps-Multiplied x) ((x : Negation) × Keeps-Negation x) ((x : Predicate) × Keeps-Predicate x) ((x : Query) × Keeps-Query x) ((x : Select) × Keeps-Select x) ((x : Sum) × Keeps-Sum x) ((x : Term) × Keeps-Term x) Join Operand SelectItem SelectList Tail Added Arm Chain Conjunction Expr Factor Further Multiplied Negation Predicate Query Select Sum Term (λ e. e.0) (λ e. e.0) (λ e. e.0) (λ e. e.0) (λ e. e.0) (λ e. e.0) (λ e. e.0) (λ e. e.0) (λ e. e.0) (λ e. e.0) (λ e. e.0) (λ e. e.0) (λ e. e.0) (λ e. e.0) (λ e. e.0) (λ e. e.0) (λ e. e.0) (λ e. e.0) (λ e. e.0) y))
  step_Chain y = keep_Chain y.first (map (λ e. e.0) y.joins) (firsts Keeps-Join y.joins)

  step_Conjunction : (y : Of Conjunction-F) → Keeps-Conjunction (roll-Conjunction (map-Conjunction ((x : Join) × Keeps-Join x) ((x : Operand) × Keeps-Operand x) ((x : SelectItem) × Keeps-SelectItem x) ((x : SelectList) × Keeps-SelectList x) ((x : Tail) × Keeps-Tail x) ((x : Added) × Keeps-Added x) ((x : Arm) × Keeps-Arm x) ((x : Chain) × Keeps-Chain x) ((x : Conjunction) × Keeps-Conjunction x) ((x : Expr) × Keeps-Expr x) ((x : Factor) × Keeps-Factor x) ((x : Further) × Keeps-Further x) ((x : Multiplied) × Keeps-Multiplied x) ((x : Negation) × Keeps-Negation x) ((x : Predicate) × Keeps-Predicate x) ((x : Query) × Keeps-Query x) ((x : Select) × Keeps-Select x) ((x : Sum) × Keeps-Sum x) ((x : Term) × Keeps-Term x) Join Operand SelectItem SelectList Tail Added Arm Chain Conjunction Expr Factor Further Multiplied Negation Predicate Query Select Sum Term (λ e. e.0) (λ e. e.0) (λ e. e.0) (λ e. e.0) (λ e. e.0) (λ e. e.0) (λ e. e.0) (λ e. e.0) (λ e. e.0) (λ e. e.0) (λ e. e.0) (λ e. e.0) (λ e. e.0) (λ e. e.0) (λ e. e.0) (λ e. e.0) (λ e. e.0) (λ e. e.0) (λ e. e.0) y))
  step_Conjunction y = keep_Conjunction (map (λ e. e.0) y.every) (firsts Keeps-Negation y.every)

  step_Expr : (y : Of Expr-F) → Keeps-Expr (roll-Expr (map-Expr ((x : Join) × Keeps-Join x) ((x : Operand) × Keeps-Operand x) ((x : SelectItem) × Keeps-SelectItem x) ((x : SelectList) × Keeps-SelectList x) ((x : Tail) × Keeps-Tail x) ((x : Added) × Keeps-Added x) ((x : Arm) × Keeps-Arm x) ((x : Chain) × Keeps-Chain x) ((x : Conjunction) × Keeps-Conjunction x) ((x : Expr) × Keeps-Expr x) ((x : Factor) × Keeps-Factor x) ((x : Further) × Keeps-Further x) ((x : Multiplied) × Keeps-Multiplied x) ((x : Negation) × Keeps-Negation x) ((x : Predicate) × Keeps-Predicate x) ((x : Query) × Keeps-Query x) ((x : Select) × Keeps-Select x) ((x : Sum) × Keeps-Sum x) ((x : Term) × Keeps-Term x) Join Operand SelectItem SelectList Tail Added Arm Chain Conjunction Expr Factor Further Multiplied Negation Predicate Query Select Sum Term (λ e. e.0) (λ e. e.0) (λ e. e.0) (λ e. e.0) (λ e. e.0) (λ e. e.0) (λ e. e.0) (λ e. e.0) (λ e. e.0) (λ e. e.0) (λ e. e.0) (λ e. e.0) (λ e. e.0) (λ e. e.0) (λ e. e.0) (λ e. e.0) (λ e. e.0) (λ e. e.0) (λ e. e.0) y))
  step_Expr y = keep_Expr (map (λ e. e.0) y.any) (firsts Keeps-Conjunction y.any)

  step_Factor : (y : Of Factor-F) → Keeps-Factor (roll-Factor (map-Factor ((x : Join) × Keeps-Join x) ((x : Operand) × Keeps-Operand x) ((x : SelectItem) × Keeps-SelectItem x) ((x : SelectList) × Keeps-SelectList x) ((x : Tail) × Keeps-Tail x) ((x : Added) × Keeps-Added x) ((x : Arm) × Keeps-Arm x) ((x : Chain) × Keeps-Chain x) ((x : Conjunction) × Keeps-Conjunction x) ((x : Expr) × Keeps-Expr x) ((x : Factor) × Keeps-Factor x) ((x : Further) × Keeps-Further x) ((x : Multiplied) × Keeps-Multiplied x) ((x : Negation) × Keeps-Negation x) ((x : Predicate) × Keeps-Predicate x) ((x : Query) × Keeps-Query x) ((x : Select) × Keeps-Select x) ((x : Sum) × Keeps-Sum x) ((x : Term) × Keeps-Term x) Join Operand SelectItem SelectList Tail Added Arm Chain Conjunction Expr Factor Further Multiplied Negation Predicate Query Select Sum Term (λ e. e.0) (λ e. e.0) (λ e. e.0) (λ e. e.0) (λ e. e.0) (λ e. e.0) (λ e. e.0) (λ e. e.0) (λ e. e.0) (λ e. e.0) (λ e. e.0) (λ e. e.0) (λ e. e.0) (λ e. e.0) (λ e. e.0) (λ e. e.0) (λ e. e.0) (λ e. e.0) (λ e. e.0) y))
  step_Factor y = keep_Factor y.minus y.operand.0 y.operand.1

  step_Further : (y : Of Further-F) → Keeps-Further (roll-Further (map-Further ((x : Join) × Keeps-Join x) ((x : Operand) × Keeps-Operand x) ((x : SelectItem) × Keeps-SelectItem x) ((x : SelectList) × Keeps-SelectList x) ((x : Tail) × Keeps-Tail x) ((x : Added) × Keeps-Added x) ((x : Arm) × Keeps-Arm x) ((x : Chain) × Keeps-Chain x) ((x : Conjunction) × Keeps-Conjunction x) ((x : Expr) × Keeps-Expr x) ((x : Factor) × Keeps-Factor x) ((x : Further) × Keeps-Further x) ((x : Multiplied) × Keeps-Multiplied x) ((x : Negation) × Keeps-Negation x) ((x : Predicate) × Keeps-Predicate x) ((x : Query) × Keeps-Query x) ((x : Select) × Keeps-Select x) ((x : Sum) × Keeps-Sum x) ((x : Term) × Keeps-Term x) Join Operand SelectItem SelectList Tail Added Arm Chain Conjunction Expr Factor Further Multiplied Negation Predicate Query Select Sum Term (λ e. e.0) (λ e. e.0) (λ e. e.0) (λ e. e.0) (λ e. e.0) (λ e. e.0) (λ e. e.0) (λ e. e.0) (λ e. e.0) (λ e. e.0) (λ e. e.0) (λ e. e.0) (λ e. e.0) (λ e. e.0) (λ e. e.0) (λ e. e.0) (λ e. e.0) (λ e. e.0) (λ e. e.0) y))
  step_Further y = keep_Further y.by y.all y.select.0 y.select.1

  step_Multiplied : (y : Of Multiplied-F) → Keeps-Multiplied (roll-Multiplied (map-Multiplied ((x : Join) × Keeps-Join x) ((x : Operand) × Keeps-Operand x) ((x : SelectItem) × Keeps-SelectItem x) ((x : SelectList) × Keeps-SelectList x) ((x : Tail) × Keeps-Tail x) ((x : Added) × Keeps-Added x) ((x : Arm) × Keeps-Arm x) ((x : Chain) × Keeps-Chain x) ((x : Conjunction) × Keeps-Conjunction x) ((x : Expr) × Keeps-Expr x) ((x : Factor) × Keeps-Factor x) ((x : Further) × Keeps-Further x) ((x : Multiplied) × Keeps-Multiplied x) ((x : Negation) × Keeps-Negation x) ((x : Predicate) × Keeps-Predicate x) ((x : Query) × Keeps-Query x) ((x : Select) × Keeps-Select x) ((x : Sum) × Keeps-Sum x) ((x : Term) × Keeps-Term x) Join Operand SelectItem SelectList Tail Added Arm Chain Conjunction Expr Factor Further Multiplied Negation Predicate Query Select Sum Term (λ e. e.0) (λ e. e.0) (λ e. e.0) (λ e. e.0) (λ e. e.0) (λ e. e.0) (λ e. e.0) (λ e. e.0) (λ e. e.0) (λ e. e.0) (λ e. e.0) (λ e. e.0) (λ e. e.0) (λ e. e.0) (λ e. e.0) (λ e. e.0) (λ e. e.0) (λ e. e.0) (λ e. e.0) y))
  step_Multiplied y = keep_Multiplied y.by y.factor.0 y.factor.1

  step_Negation : (y : Of Negation-F) → Keeps-Negation (roll-Negation (map-Negation ((x : Join) × Keeps-Join x) ((x : Operand) × Keeps-Operand x) ((x : SelectItem) × Keeps-SelectItem x) ((x : SelectList) × Keeps-SelectList x) ((x : Tail) × Keeps-Tail x) ((x : Added) × Keeps-Added x) ((x : Arm) × Keeps-Arm x) ((x : Chain) × Keeps-Chain x) ((x : Conjunction) × Keeps-Conjunction x) ((x : Expr) × Keeps-Expr x) ((x : Factor) × Keeps-Factor x) ((x : Further) × Keeps-Further x) ((x : Multiplied) × Keeps-Multiplied x) ((x : Negation) × Keeps-Negation x) ((x : Predicate) × Keeps-Predicate x) ((x : Query) × Keeps-Query x) ((x : Select) × Keeps-Select x) ((x : Sum) × Keeps-Sum x) ((x : Term) × Keeps-Term x) Join Operand SelectItem SelectList Tail Added Arm Chain Conjunction Expr Factor Further Multiplied Negation Predicate Query Select Sum Term (λ e. e.0) (λ e. e.0) (λ e. e.0) (λ e. e.0) (λ e. e.0) (λ e. e.0) (λ e. e.0) (λ e. e.0) (λ e. e.0) (λ e. e.0) (λ e. e.0) (λ e. e.0) (λ e. e.0) (λ e. e.0) (λ e. e.0) (λ e. e.0) (λ e. e.0) (λ e. e.0) (λ e. e.0) y))
  step_Negation y = keep_Negation y.negated y.predicate.0 y.predicate.1

  step_Predicate : (y : Of Predicate-F) → Keeps-Predicate (roll-Predicate (map-Predicate ((x : Join) × Keeps-Join x) ((x : Operand) × Keeps-Operand x) ((x : SelectItem) × Keeps-SelectItem x) ((x : SelectList) × Keeps-SelectList x) ((x : Tail) × Keeps-Tail x) ((x : Added) × Keeps-Added x) ((x : Arm) × Keeps-Arm x) ((x : Chain) × Keeps-Chain x) ((x : Conjunction) × Keeps-Conjunction x) ((x : Expr) × Keeps-Expr x) ((x : Factor) × Keeps-Factor x) ((x : Further) × Keeps-Further x) ((x : Multiplied) × Keeps-Multiplied x) ((x : Negation) × Keeps-Negation x) ((x : Predicate) × Keeps-Predicate x) ((x : Query) × Keeps-Query x) ((x : Select) × Keeps-Select x) ((x : Sum) × Keeps-Sum x) ((x : Term) × Keeps-Term x) Join Operand SelectItem SelectList Tail Added Arm Chain Conjunction Expr Factor Further Multiplied Negation Predicate Query Select Sum Term (λ e. e.0) (λ e. e.0) (λ e. e.0) (λ e. e.0) (λ e. e.0) (λ e. e.0) (λ e. e.0) (λ e. e.0) (λ e. e.0) (λ e. e.0) (λ e. e.0) (λ e. e.0) (λ e. e.0) (λ e. e.0) (λ e. e.0) (λ e. e.0) (λ e. e.0) (λ e. e.0) (λ e. e.0) y))
  step_Predicate y = cases y.tail
    where
      cases : (o : Option ((x : Tail) × Keeps-Tail x)) → Keeps-Predicate (roll-Predicate (map-Predicate ((x : Join) × Keeps-Join x) ((x : Operand) × Keeps-Operand x) ((x : SelectItem) × Keeps-SelectItem x) ((x : SelectList) × Keeps-SelectList x) ((x : Tail) × Keeps-Tail x) ((x : Added) × Keeps-Added x) ((x : Arm) × Keeps-Arm x) ((x : Chain) × Keeps-Chain x) ((x : Conjunction) × Keeps-Conjunction x) ((x : Expr) × Keeps-Expr x) ((x : Factor) × Keeps-Factor x) ((x : Further) × Keeps-Further x) ((x : Multiplied) × Keeps-Multiplied x) ((x : Negation) × Keeps-Negation x) ((x : Predicate) × Keeps-Predicate x) ((x : Query) × Keeps-Query x) ((x : Select) × Keeps-Select x) ((x : Sum) × Keeps-Sum x) ((x : Term) × Keeps-Term x) Join Operand SelectItem SelectList Tail Added Arm Chain Conjunction Expr Factor Further Multiplied Negation Predicate Query Select Sum Term (λ e. e.0) (λ e. e.0) (λ e. e.0) (λ e. e.0) (λ e. e.0) (λ e. e.0) (λ e. e.0) (λ e. e.0) (λ e. e.0) (λ e. e.0) (λ e. e.0) (λ e. e.0) (λ e. e.0) (λ e. e.0) (λ e. e.0) (λ e. e.0) (λ e. e.0) (λ e. e.0) (λ e. e.0) (record y { tail = o })))
      cases None = keep_Predicate y.tested.0 None y.tested.1 tt
      cases (Some o) = keep_Predicate y.tested.0 (Some o.0) y.tested.1 o.1

  step_Query : (y : Of Query-F) → Keeps-Query (roll-Query (map-Query ((x : Join) × Keeps-Join x) ((x : Operand) × Keeps-Operand x) ((x : SelectItem) × Keeps-SelectItem x) ((x : SelectList) × Keeps-SelectList x) ((x : Tail) × Keeps-Tail x) ((x : Added) × Keeps-Added x) ((x : Arm) × Keeps-Arm x) ((x : Chain) × Keeps-Chain x) ((x : Conjunction) × Keeps-Conjunction x) ((x : Expr) × Keeps-Expr x) ((x : Factor) × Keeps-Factor x) ((x : Further) × Keeps-Further x) ((x : Multiplied) × Keeps-Multiplied x) ((x : Negation) × Keeps-Negation x) ((x : Predicate) × Keeps-Predicate x) ((x : Query) × Keeps-Query x) ((x : Select) × Keeps-Select x) ((x : Sum) × Keeps-Sum x) ((x : Term) × Keeps-Term x) Join Operand SelectItem SelectList Tail Added Arm Chain Conjunction Expr Factor Further Multiplied Negation Predicate Query Select Sum Term (λ e. e.0) (λ e. e.0) (λ e. e.0) (λ e. e.0) (λ e. e.0) (λ e. e.0) (λ e. e.0) (λ e. e.0) (λ e. e.0) (λ e. e.0) (λ e. e.0) (λ e. e.0) (λ e. e.0) (λ e. e.0) (λ e. e.0) (λ e. e.0) (λ e. e.0) (λ e. e.0) (λ e. e.0) y))
  step_Query y = keep_Query y.first.0 (map (λ e. e.0) y.others) y.first.1 (firsts Keeps-Further y.others)

  step_Select : (y : Of Select-F) → Keeps-Select (roll-Select (map-Select ((x : Join) × Keeps-Join x) ((x : Operand) × Keeps-Operand x) ((x : SelectItem) × Keeps-SelectItem x) ((x : SelectList) × Keeps-SelectList x) ((x : Tail) × Keeps-Tail x) ((x : Added) × Keeps-Added x) ((x : Arm) × Keeps-Arm x) ((x : Chain) × Keeps-Chain x) ((x : Conjunction) × Keeps-Conjunction x) ((x : Expr) × Keeps-Expr x) ((x : Factor) × Keeps-Factor x) ((x : Further) × Keeps-Further x) ((x : Multiplied) × Keeps-Multiplied x) ((x : Negation) × Keeps-Negation x) ((x : Predicate) × Keeps-Predicate x) ((x : Query) × Keeps-Query x) ((x : Select) × Keeps-Select x) ((x : Sum) × Keeps-Sum x) ((x : Term) × Keeps-Term x) Join Operand SelectItem SelectList Tail Added Arm Chain Conjunction Expr Factor Further Multiplied Negation Predicate Query Select Sum Term (λ e. e.0) (λ e. e.0) (λ e. e.0) (λ e. e.0) (λ e. e.0) (λ e. e.0) (λ e. e.0) (λ e. e.0) (λ e. e.0) (λ e. e.0) (λ e. e.0) (λ e. e.0) (λ e. e.0) (λ e. e.0) (λ e. e.0) (λ e. e.0) (λ e. e.0) (λ e. e.0) (λ e. e.0) y))
  step_Select y = cases y.filter
    where
      cases : (o : Option ((x : Expr) × Keeps-Expr x)) → Keeps-Select (roll-Select (map-Select ((x : Join) × Keeps-Join x) ((x : Operand) × Keeps-Operand x) ((x : SelectItem) × Keeps-SelectItem x) ((x : SelectList) × Keeps-SelectList x) ((x : Tail) × Keeps-Tail x) ((x : Added) × Keeps-Added x) ((x : Arm) × Keeps-Arm x) ((x : Chain) × Keeps-Chain x) ((x : Conjunction) × Keeps-Conjunction x) ((x : Expr) × Keeps-Expr x) ((x : Factor) × Keeps-Factor x) ((x : Further) × Keeps-Further x) ((x : Multiplied) × Keeps-Multiplied x) ((x : Negation) × Keeps-Negation x) ((x : Predicate) × Keeps-Predicate x) ((x : Query) × Keeps-Query x) ((x : Select) × Keeps-Select x) ((x : Sum) × Keeps-Sum x) ((x : Term) × Keeps-Term x) Join Operand SelectItem SelectList Tail Added Arm Chain Conjunction Expr Factor Further Multiplied Negation Predicate Query Select Sum Term (λ e. e.0) (λ e. e.0) (λ e. e.0) (λ e. e.0) (λ e. e.0) (λ e. e.0) (λ e. e.0) (λ e. e.0) (λ e. e.0) (λ e. e.0) (λ e. e.0) (λ e. e.0) (λ e. e.0) (λ e. e.0) (λ e. e.0) (λ e. e.0) (λ e. e.0) (λ e. e.0) (λ e. e.0) (record y { filter = o })))
      cases None = keep_Select y.distinct y.list.0 (map (λ e. e.0) y.from) None y.group_by y.list.1 (firsts Keeps-Chain y.from) tt
      cases (Some o) = keep_Select y.distinct y.list.0 (map (λ e. e.0) y.from) (Some o.0) y.group_by y.list.1 (firsts Keeps-Chain y.from) o.1

  step_Sum : (y : Of Sum-F) → Keeps-Sum (roll-Sum (map-Sum ((x : Join) × Keeps-Join x) ((x : Operand) × Keeps-Operand x) ((x : SelectItem) × Keeps-SelectItem x) ((x : SelectList) × Keeps-SelectList x) ((x : Tail) × Keeps-Tail x) ((x : Added) × Keeps-Added x) ((x : Arm) × Keeps-Arm x) ((x : Chain) × Keeps-Chain x) ((x : Conjunction) × Keeps-Conjunction x) ((x : Expr) × Keeps-Expr x) ((x : Factor) × Keeps-Factor x) ((x : Further) × Keeps-Further x) ((x : Multiplied) × Keeps-Multiplied x) ((x : Negation) × Keeps-Negation x) ((x : Predicate) × Keeps-Predicate x) ((x : Query) × Keeps-Query x) ((x : Select) × Keeps-Select x) ((x : Sum) × Keeps-Sum x) ((x : Term) × Keeps-Term x) Join Operand SelectItem SelectList Tail Added Arm Chain Conjunction Expr Factor Further Multiplied Negation Predicate Query Select Sum Term (λ e. e.0) (λ e. e.0) (λ e. e.0) (λ e. e.0) (λ e. e.0) (λ e. e.0) (λ e. e.0) (λ e. e.0) (λ e. e.0) (λ e. e.0) (λ e. e.0) (λ e. e.0) (λ e. e.0) (λ e. e.0) (λ e. e.0) (λ e. e.0) (λ e. e.0) (λ e. e.0) (λ e. e.0) y))
  step_Sum y = keep_Sum y.first.0 (map (λ e. e.0) y.others) y.first.1 (firsts Keeps-Added y.others)

  step_Term : (y : Of Term-F) → Keeps-Term (roll-Term (map-Term ((x : Join) × Keeps-Join x) ((x : Operand) × Keeps-Operand x) ((x : SelectItem) × Keeps-SelectItem x) ((x : SelectList) × Keeps-SelectList x) ((x : Tail) × Keeps-Tail x) ((x : Added) × Keeps-Added x) ((x : Arm) × Keeps-Arm x) ((x : Chain) × Keeps-Chain x) ((x : Conjunction) × Keeps-Conjunction x) ((x : Expr) × Keeps-Expr x) ((x : Factor) × Keeps-Factor x) ((x : Further) × Keeps-Further x) ((x : Multiplied) × Keeps-Multiplied x) ((x : Negation) × Keeps-Negation x) ((x : Predicate) × Keeps-Predicate x) ((x : Query) × Keeps-Query x) ((x : Select) × Keeps-Select x) ((x : Sum) × Keeps-Sum x) ((x : Term) × Keeps-Term x) Join Operand SelectItem SelectList Tail Added Arm Chain Conjunction Expr Factor Further Multiplied Negation Predicate Query Select Sum Term (λ e. e.0) (λ e. e.0) (λ e. e.0) (λ e. e.0) (λ e. e.0) (λ e. e.0) (λ e. e.0) (λ e. e.0) (λ e. e.0) (λ e. e.0) (λ e. e.0) (λ e. e.0) (λ e. e.0) (λ e. e.0) (λ e. e.0) (λ e. e.0) (λ e. e.0) (λ e. e.0) (λ e. e.0) y))
  step_Term y = keep_Term y.first.0 (map (λ e. e.0) y.others) y.first.1 (firsts Keeps-Multiplied y.others)

  pub expr_kept : (x : Expr) → Keeps-Expr x
  expr_kept = ind-Expr Keeps-Join Keeps-Operand Keeps-SelectItem Keeps-SelectList Keeps-Tail Keeps-Added Keeps-Arm Keeps-Chain Keeps-Conjunction Keeps-Expr Keeps-Factor Keeps-Further Keeps-Multiplied Keeps-Negation Keeps-Predicate Keeps-Query Keeps-Select Keeps-Sum Keeps-Term
      (λ x y is. subst (λ z. Keeps-Join (roll-Join z)) is (step_Join y)) (λ x y is. subst (λ z. Keeps-Operand (roll-Operand z)) is (step_Operand y)) (λ x y is. subst (λ z. Keeps-SelectItem (roll-SelectItem z)) is (step_SelectItem y)) (λ x y is. subst (λ z. Keeps-SelectList (roll-SelectList z)) is (step_SelectList y)) (λ x y is. subst (λ z. Keeps-Tail (roll-Tail z)) is (step_Tail y)) (λ x y is. subst (λ z. Keeps-Added (roll-Added z)) is (step_Added y)) (λ x y is. subst (λ z. Keeps-Arm (roll-Arm z)) is (step_Arm y)) (λ x y is. subst (λ z. Keeps-Chain (roll-Chain z)) is (step_Chain y)) (λ x y is. subst (λ z. Keeps-Conjunction (roll-Conjunction z)) is (step_Conjunction y)) (λ x y is. subst (λ z. Keeps-Expr (roll-Expr z)) is (step_Expr y)) (λ x y is. subst (λ z. Keeps-Factor (roll-Factor z)) is (step_Factor y)) (λ x y is. subst (λ z. Keeps-Further (roll-Further z)) is (step_Further y)) (λ x y is. subst (λ z. Keeps-Multiplied (roll-Multiplied z)) is (step_Multiplied y)) (λ x y is. subst (λ z. Keeps-Negation (roll-Negation z)) is (step_Negation y)) (λ x y is. subst (λ z. Keeps-Predicate (roll-Predicate z)) is (step_Predicate y)) (λ x y is. subst (λ z. Keeps-Query (roll-Query z)) is (step_Query y)) (λ x y is. subst (λ z. Keeps-Select (roll-Select z)) is (step_Select y)) (λ x y is. subst (λ z. Keeps-Sum (roll-Sum z)) is (step_Sum y)) (λ x y is. subst (λ z. Keeps-Term (roll-Term z)) is (step_Term y))
