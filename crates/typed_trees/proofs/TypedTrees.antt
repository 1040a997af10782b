-- A resolved query whose names have types has types, layer by layer.
use Rattle.std.proofs.Common.{◌≡◌, ℕ, Bool, List, [], ◌∷◌, ◌++◌, Option, Some, None, map, sym, subst}
use Rattle.std.specs.Prelude.{option_map}
use Rattle.sql_tree.specs.declared.expr.Join.{Join, roll-Join, map-Join}
use Rattle.sql_tree.specs.declared.expr.Operand.{Operand, roll-Operand, map-Operand}
use Rattle.sql_tree.specs.declared.expr.SelectItem.{SelectItem, roll-SelectItem, map-SelectItem}
use Rattle.sql_tree.specs.declared.expr.SelectList.{SelectList, roll-SelectList, map-SelectList}
use Rattle.sql_tree.specs.declared.expr.Tail.{Tail, roll-Tail, map-Tail}
use Rattle.sql_tree.specs.declared.expr.Added.{Added, roll-Added, map-Added}
use Rattle.sql_tree.specs.declared.expr.Arm.{Arm, roll-Arm, map-Arm}
use Rattle.sql_tree.specs.declared.expr.Chain.{Chain, roll-Chain, map-Chain}
use Rattle.sql_tree.specs.declared.expr.Conjunction.{Conjunction, roll-Conjunction, map-Conjunction}
use Rattle.sql_tree.specs.declared.expr.Expr.{Expr, roll-Expr, map-Expr}
use Rattle.sql_tree.specs.declared.expr.Factor.{Factor, roll-Factor, map-Factor}
use Rattle.sql_tree.specs.declared.expr.Further.{Further, roll-Further, map-Further}
use Rattle.sql_tree.specs.declared.expr.Multiplied.{Multiplied, roll-Multiplied, map-Multiplied}
use Rattle.sql_tree.specs.declared.expr.Negation.{Negation, roll-Negation, map-Negation}
use Rattle.sql_tree.specs.declared.expr.Predicate.{Predicate, roll-Predicate, map-Predicate}
use Rattle.sql_tree.specs.declared.expr.Query.{Query, roll-Query, map-Query, ind-Query}
use Rattle.sql_tree.specs.declared.expr.Select.{Select, roll-Select, map-Select}
use Rattle.sql_tree.specs.declared.expr.Sum.{Sum, roll-Sum, map-Sum}
use Rattle.sql_tree.specs.declared.expr.Term.{Term, roll-Term, map-Term}
use Rattle.sql_tree.specs.declared.expr.Join.TheOpen.{Join-F, Operand-F, SelectItem-F, SelectList-F, Tail-F, Added-F, Arm-F, Chain-F, Conjunction-F, Expr-F, Factor-F, Further-F, Multiplied-F, Negation-F, Predicate-F, Query-F, Select-F, Sum-F, Term-F}
use Rattle.sql_tree.specs.declared.expr.Comparison.{Comparison}
use Rattle.sql_tree.specs.declared.expr.Aggregate.{Aggregate}
use Rattle.sql_tree.specs.declared.expr.Additive.{Additive}
use Rattle.sql_tree.specs.declared.expr.Multiplicative.{Multiplicative}
use Rattle.sql_tree.specs.declared.expr.SetOperator.{SetOperator}
use Rattle.sql_names.specs.declared.sort.SqlType.{SqlType}
use Rattle.sql_names.specs.declared.sort.Special.{Special}
use Rattle.sql_names.specs.declared.column.Reference.{Reference}
use Rattle.sql_names.specs.declared.column.ObjectName.{ObjectName}
use Rattle.sql_names.specs.declared.column.TableReference.{TableReference}
use Rattle.sql_names.specs.NameBytes.{NameBytes}
use Rattle.name_scopes.specs.declared.scope.Scope.{Scope}
use Rattle.name_scopes.specs.Frames.{Frames}
use Rattle.name_scopes.specs.Known.{Known}
use Rattle.type_rules.specs.Rules.{aggregate, negative}
use Rattle.type_rules.specs.TypeParts.{Typed, all_hold, each, frame, holds, single, tables, united, with_tail}
use Rattle.query_types.specs.Types.{operand, select_item, select_list, tail, added, arm, chain, conjunction, expr, factor, further, multiplied, negation, predicate, query, select, sum, term}
use Rattle.cat_items.specs.Pieces.{IsResolved, IsType, Pieces, of_group, all_pieces, some_pieces, optional_pieces, expr_pieces, query_pieces}
use Rattle.view_deps.specs.Views.{query_scope}
use Rattle.resolved_trees.specs.TreePieces.{operand_pieces, select_item_pieces, select_list_pieces, tail_pieces, added_pieces, arm_pieces, chain_pieces, conjunction_pieces, factor_pieces, further_pieces, multiplied_pieces, negation_pieces, predicate_pieces, select_pieces, sum_pieces, term_pieces}
use Rattle.resolved_trees.proofs.Everies.{Every, every_left, every_right, firsts, spread}
use Rattle.resolved_trees.proofs.PieceEquations.{pieces_Operand_Number, pieces_Operand_Aggregate, pieces_Operand_Case, pieces_Operand_Cast, pieces_Operand_Subquery, pieces_Operand_Parenthesized, pieces_SelectItem_Expr, pieces_SelectList_Listed, pieces_Added, pieces_Arm, pieces_Conjunction, pieces_Expr, pieces_Factor, pieces_Further, pieces_Multiplied, pieces_Negation, pieces_Predicate, pieces_Query, pieces_Select, pieces_Sum, pieces_Term}
use Rattle.typed_trees.specs.Typed.{HaveTypes}
use Rattle.typed_trees.proofs.KnownTypes.{called_typed, reference_typed}
use Rattle.typed_trees.proofs.RuleTypes.{AllHaveTypes, HasType, aggregate_typed, holds_then, literal_typed, negative_typed, number_typed, special_typed}
use Rattle.typed_trees.proofs.TypedParts.{between_typed, case_typed, cast_type_typed, compared_typed, each_typed, guarded_typed, like_typed, listed_typed, logical_typed, negated_typed, product_of_typed, selected_typed, single_typed, sum_of_typed, tested_typed, there_typed, united_typed}
use Rattle.typed_trees.proofs.TypingEquations.{typing_Added, typing_Arm, typing_Conjunction, typing_Expr, typing_Factor, typing_Further, typing_Multiplied, typing_Negation, typing_Operand_Aggregate, typing_Operand_Call, typing_Operand_Case, typing_Operand_Cast, typing_Operand_CountAll, typing_Operand_Exists, typing_Operand_False, typing_Operand_Literal, typing_Operand_Number, typing_Operand_Parenthesized, typing_Operand_Reference, typing_Operand_Special, typing_Operand_Subquery, typing_Operand_True, typing_Operand_Value, typing_Predicate, typing_Query, typing_Select, typing_SelectItem_Expr, typing_SelectItem_QualifiedStar, typing_SelectList_Listed, typing_SelectList_Star, typing_Sum, typing_Tail_Between, typing_Tail_Compare, typing_Tail_InList, typing_Tail_InQuery, typing_Tail_IsNull, typing_Tail_Like, typing_Term}

abbrev Optional : {X : Type 0} → (X → Type 0) → Option X → Type 0
Optional P None = Unit {0}
Optional P (Some x) = P x

-- what holds of each part that is resolved, where all are
module _ {X : Type 0} (pieces : X → Pieces) (Q : X → Frames → Type 0) (s : Frames) where
  at_each : (xs : List X) → Every (λ x. Every IsResolved (pieces x) → (t : Frames) → Q x t) xs → Every (λ x. Every IsResolved (pieces x)) xs → Every (λ x. Q x s) xs
  at_each [] h r = tt
  at_each (x ∷ xs) h r = (h.0 r.0 s, at_each xs h.1 r.1)

  all_at : (xs : List X) → Every (λ x. Every IsResolved (pieces x) → (t : Frames) → Q x t) xs → Every IsResolved (all_pieces (map pieces xs)) → Every (λ x. Q x s) xs
  all_at xs h r = at_each xs h (spread IsResolved pieces xs r)

module _ (k : Known) (schema : NameBytes) (have : HaveTypes k) where
  abbrev scope : Scope
  scope = query_scope schema

  abbrev Types-Join : Join → Type 0
  Types-Join x = Unit {0}

  abbrev Types-Operand : Operand → Type 0
  Types-Operand x = Every IsResolved (operand_pieces x) → (s : Frames) → HasType (operand k scope x s)

  abbrev Types-SelectItem : SelectItem → Type 0
  Types-SelectItem x = Every IsResolved (select_item_pieces x) → (s : Frames) → HasType (select_item k scope x s)

  abbrev Types-SelectList : SelectList → Type 0
  Types-SelectList x = Every IsResolved (select_list_pieces x) → (s : Frames) → AllHaveTypes (select_list k scope x s)

  abbrev Types-Tail : Tail → Type 0
  Types-Tail x = (s : Frames) (left : Option SqlType) → HasType (tail k scope x s left)

  abbrev Types-Added : Added → Type 0
  Types-Added x = Every IsResolved (added_pieces x) → (s : Frames) → HasType ((added k scope x).1 s)

  abbrev Types-Arm : Arm → Type 0
  Types-Arm x = Every IsResolved (arm_pieces x) → (s : Frames) → HasType (arm k scope x s)

  abbrev Types-Chain : Chain → Type 0
  Types-Chain x = Unit {0}

  abbrev Types-Conjunction : Conjunction → Type 0
  Types-Conjunction x = Every IsResolved (conjunction_pieces x) → (s : Frames) → HasType (conjunction k scope x s)

  abbrev Types-Expr : Expr → Type 0
  Types-Expr x = Every IsResolved (expr_pieces x) → (s : Frames) → HasType (expr k scope x s)

  abbrev Types-Factor : Factor → Type 0
  Types-Factor x = Every IsResolved (factor_pieces x) → (s : Frames) → HasType (factor k scope x s)

  abbrev Types-Further : Further → Type 0
  Types-Further x = Every IsResolved (further_pieces x) → (s : Frames) → AllHaveTypes (further k scope x s)

  abbrev Types-Multiplied : Multiplied → Type 0
  Types-Multiplied x = Every IsResolved (multiplied_pieces x) → (s : Frames) → HasType (multiplied k scope x s)

  abbrev Types-Negation : Negation → Type 0
  Types-Negation x = Every IsResolved (negation_pieces x) → (s : Frames) → HasType (negation k scope x s)

  abbrev Types-Predicate : Predicate → Type 0
  Types-Predicate x = Every IsResolved (predicate_pieces x) → (s : Frames) → HasType (predicate k scope x s)

  abbrev Types-Query : Query → Type 0
  Types-Query x = Every IsResolved (query_pieces x) → (s : Frames) → AllHaveTypes (query k scope x s)

  abbrev Types-Select : Select → Type 0
  Types-Select x = Every IsResolved (select_pieces x) → (s : Frames) → AllHaveTypes (select k scope x s)

  abbrev Types-Sum : Sum → Type 0
  Types-Sum x = Every IsResolved (sum_pieces x) → (s : Frames) → HasType (sum k scope x s)

  abbrev Types-Term : Term → Type 0
  Types-Term x = Every IsResolved (term_pieces x) → (s : Frames) → HasType (term k scope x s)

  typed_Join_Inner : (table' : TableReference) (on' : Expr) → Types-Expr on' → Types-Join (roll-Join (Join-F.Inner table' on'))
  typed_Join_Inner table' on' h-on = tt

  typed_Join_Cross : (table' : TableReference) → Types-Join (roll-Join (Join-F.Cross table'))
  typed_Join_Cross table' = tt

  typed_Operand_Literal : (text' : List ℕ) → Types-Operand (roll-Operand (Operand-F.Literal text'))
  typed_Operand_Literal text' r s = subst HasType (sym (typing_Operand_Literal k scope text' s)) (literal_typed text')

  typed_Operand_Number : (text' : List ℕ) → Types-Operand (roll-Operand (Operand-F.Number text'))
  typed_Operand_Number text' r s = subst HasType (sym (typing_Operand_Number k scope text' s)) (number_typed text' (subst (Every IsResolved) (pieces_Operand_Number text') r).0)

  typed_Operand_True : Types-Operand (roll-Operand Operand-F.True)
  typed_Operand_True r s = subst HasType (sym (typing_Operand_True k scope s)) tt

  typed_Operand_False : Types-Operand (roll-Operand Operand-F.False)
  typed_Operand_False r s = subst HasType (sym (typing_Operand_False k scope s)) tt

  typed_Operand_Special : (special' : Special) → Types-Operand (roll-Operand (Operand-F.Special special'))
  typed_Operand_Special special' r s = subst HasType (sym (typing_Operand_Special k scope special' s)) (special_typed special')

  typed_Operand_Value : Types-Operand (roll-Operand Operand-F.Value)
  typed_Operand_Value r s = subst HasType (sym (typing_Operand_Value k scope s)) tt

  typed_Operand_Reference : (r' : Reference) → Types-Operand (roll-Operand (Operand-F.Reference r'))
  typed_Operand_Reference r' r s = subst HasType (sym (typing_Operand_Reference k scope r' s)) (reference_typed k schema have r' s)

  typed_Operand_Call : (f' : ObjectName) (es' : List Expr) → Every Types-Expr es' → Types-Operand (roll-Operand (Operand-F.Call f' es'))
  typed_Operand_Call f' es' h-es r s = subst HasType (sym (typing_Operand_Call k scope f' es' s)) (called_typed k schema have f' (each s [] (map (expr k scope) es')))

  typed_Operand_CountAll : Types-Operand (roll-Operand Operand-F.CountAll)
  typed_Operand_CountAll r s = subst HasType (sym (typing_Operand_CountAll k scope s)) tt

  typed_Operand_Aggregate : (by' : Aggregate) (e' : Expr) → Types-Expr e' → Types-Operand (roll-Operand (Operand-F.Aggregate by' e'))
  typed_Operand_Aggregate by' e' h-e r s = subst HasType (sym (typing_Operand_Aggregate k scope by' e' s)) (holds_then IsType IsType (aggregate by') (expr k scope e' s) (h-e (subst (Every IsResolved) (pieces_Operand_Aggregate by' e') r) s) (aggregate_typed by'))

  typed_Operand_Case : (arms' : List Arm) (e' : Option Expr) → Every Types-Arm arms' → Optional Types-Expr e' → Types-Operand (roll-Operand (Operand-F.Case arms' e'))
  typed_Operand_Case arms' e' h-arms h-e r s =
      let parts = subst (Every IsResolved) (pieces_Operand_Case arms' e') r in
      let arms = every_left IsResolved (some_pieces (map arm_pieces arms')) (optional_pieces (option_map expr_pieces e')) parts in
      let rest = every_right IsResolved (some_pieces (map arm_pieces arms')) (optional_pieces (option_map expr_pieces e')) parts in
      subst HasType (sym (typing_Operand_Case k scope arms' e' s))
      (case_typed (each s [] (map (arm k scope) arms')) (option_map (expr k scope) e') s (each_typed (arm k scope) s [] arms' tt (all_at arm_pieces (λ x s. HasType (arm k scope x s)) s arms' h-arms arms.1)) (otherwise e' h-e rest))
    where
      otherwise : (o : Option Expr) → Optional Types-Expr o → Every IsResolved (optional_pieces (option_map expr_pieces o)) → (t : Typed SqlType) → option_map (expr k scope) o ≡ Some t → HasType (t s)
      otherwise None h p t e = absurd (let odd : None ≡ Some t = e in cc)
      otherwise (Some x) h p t e = let same : expr k scope x ≡ t = (let is : Some (expr k scope x) ≡ Some t = e in cc) in subst (λ (u : Typed SqlType). HasType (u s)) same (h p s)

  typed_Operand_Cast : (e' : Option Expr) (sort' : SqlType) → Optional Types-Expr e' → Types-Operand (roll-Operand (Operand-F.Cast e' sort'))
  typed_Operand_Cast e' sort' h-e r s =
      subst HasType (sym (typing_Operand_Cast k scope e' sort' s)) (cast_type_typed (option_map (expr k scope) e') sort' s (subst (Every IsResolved) (pieces_Operand_Cast e' sort') r).0)

  typed_Operand_Exists : (q' : Query) → Types-Query q' → Types-Operand (roll-Operand (Operand-F.Exists q'))
  typed_Operand_Exists q' h-q r s = subst HasType (sym (typing_Operand_Exists k scope q' s)) (there_typed (query k scope q' s))

  typed_Operand_Subquery : (q' : Query) → Types-Query q' → Types-Operand (roll-Operand (Operand-F.Subquery q'))
  typed_Operand_Subquery q' h-q r s = subst HasType (sym (typing_Operand_Subquery k scope q' s)) (single_typed (query k scope q' s) (h-q (subst (Every IsResolved) (pieces_Operand_Subquery q') r).1 s))

  typed_Operand_Parenthesized : (e' : Expr) → Types-Expr e' → Types-Operand (roll-Operand (Operand-F.Parenthesized e'))
  typed_Operand_Parenthesized e' h-e r s = subst HasType (sym (typing_Operand_Parenthesized k scope e' s)) (h-e (subst (Every IsResolved) (pieces_Operand_Parenthesized e') r) s)

  typed_SelectItem_Expr : (e' : Expr) (name' : Option NameBytes) → Types-Expr e' → Types-SelectItem (roll-SelectItem (SelectItem-F.Expr e' name'))
  typed_SelectItem_Expr e' name' h-e r s = subst HasType (sym (typing_SelectItem_Expr k scope e' name' s)) (h-e (subst (Every IsResolved) (pieces_SelectItem_Expr e' name') r).1 s)

  typed_SelectItem_QualifiedStar : (q' : NameBytes) → Types-SelectItem (roll-SelectItem (SelectItem-F.QualifiedStar q'))
  typed_SelectItem_QualifiedStar q' r s = subst HasType (sym (typing_SelectItem_QualifiedStar k scope q' s)) tt

  typed_SelectList_Star : Types-SelectList (roll-SelectList SelectList-F.Star)
  typed_SelectList_Star r s = subst AllHaveTypes (sym (typing_SelectList_Star k scope s)) tt

  typed_SelectList_Listed : (is' : List SelectItem) → Every Types-SelectItem is' → Types-SelectList (roll-SelectList (SelectList-F.Listed is'))
  typed_SelectList_Listed is' h-is r s =
      subst AllHaveTypes (sym (typing_SelectList_Listed k scope is' s))
      (each_typed (select_item k scope) s [] is' tt (all_at select_item_pieces (λ x s. HasType (select_item k scope x s)) s is' h-is (subst (Every IsResolved) (pieces_SelectList_Listed is') r).1))

  typed_Tail_Compare : (by' : Comparison) (x' : Sum) → Types-Sum x' → Types-Tail (roll-Tail (Tail-F.Compare by' x'))
  typed_Tail_Compare by' x' h-x s left = subst HasType (sym (typing_Tail_Compare k scope by' x' s left)) (compared_typed left (sum k scope x' s))

  typed_Tail_IsNull : (negated' : Bool) → Types-Tail (roll-Tail (Tail-F.IsNull negated'))
  typed_Tail_IsNull negated' s left = subst HasType (sym (typing_Tail_IsNull k scope negated' s left)) (tested_typed left)

  typed_Tail_Between : (negated' : Bool) (x' : Sum) (y' : Sum) → Types-Sum x' → Types-Sum y' → Types-Tail (roll-Tail (Tail-F.Between negated' x' y'))
  typed_Tail_Between negated' x' y' h-x h-y s left = subst HasType (sym (typing_Tail_Between k scope negated' x' y' s left)) (between_typed left (sum k scope x' s) (sum k scope y' s))

  typed_Tail_InQuery : (negated' : Bool) (q' : Query) → Types-Query q' → Types-Tail (roll-Tail (Tail-F.InQuery negated' q'))
  typed_Tail_InQuery negated' q' h-q s left = subst HasType (sym (typing_Tail_InQuery k scope negated' q' s left)) (compared_typed left (single (query k scope q' s)))

  typed_Tail_InList : (negated' : Bool) (es' : List Expr) → Every Types-Expr es' → Types-Tail (roll-Tail (Tail-F.InList negated' es'))
  typed_Tail_InList negated' es' h-es s left = subst HasType (sym (typing_Tail_InList k scope negated' es' s left)) (listed_typed left (each s [] (map (expr k scope) es')))

  typed_Tail_Like : (negated' : Bool) (x' : Sum) → Types-Sum x' → Types-Tail (roll-Tail (Tail-F.Like negated' x'))
  typed_Tail_Like negated' x' h-x s left = subst HasType (sym (typing_Tail_Like k scope negated' x' s left)) (like_typed left (sum k scope x' s))

  typed_Added : (by' : Additive) (term' : Term) → Types-Term term' → Types-Added (roll-Added (record { by = by'; term = term' }))
  typed_Added by' term' h-term r s = subst (λ (z : Additive × Typed SqlType). HasType (z.1 s)) (sym (typing_Added k scope by' term')) (h-term (subst (Every IsResolved) (pieces_Added by' term') r) s)

  typed_Arm : (condition' : Expr) (value' : Expr) → Types-Expr condition' → Types-Expr value' → Types-Arm (roll-Arm (record { condition = condition'; value = value' }))
  typed_Arm condition' value' h-condition h-value r s = subst HasType (sym (typing_Arm k scope condition' value' s)) (guarded_typed (expr k scope condition' s) (expr k scope value' s) (h-value (every_right IsResolved (expr_pieces condition') (expr_pieces value') (subst (Every IsResolved) (pieces_Arm condition' value') r)) s))

  typed_Chain : (first' : TableReference) (joins' : List Join) → Every Types-Join joins' → Types-Chain (roll-Chain (record { first = first'; joins = joins' }))
  typed_Chain first' joins' h-joins = tt

  typed_Conjunction : (every' : List Negation) → Every Types-Negation every' → Types-Conjunction (roll-Conjunction (record { every = every' }))
  typed_Conjunction every' h-every r s = subst HasType (sym (typing_Conjunction k scope every' s)) (logical_typed (each s [] (map (negation k scope) every')) (each_typed (negation k scope) s [] every' tt (all_at negation_pieces (λ x s. HasType (negation k scope x s)) s every' h-every (subst (Every IsResolved) (pieces_Conjunction every') r).1)))

  typed_Expr : (any' : List Conjunction) → Every Types-Conjunction any' → Types-Expr (roll-Expr (record { any = any' }))
  typed_Expr any' h-any r s = subst HasType (sym (typing_Expr k scope any' s)) (logical_typed (each s [] (map (conjunction k scope) any')) (each_typed (conjunction k scope) s [] any' tt (all_at conjunction_pieces (λ x s. HasType (conjunction k scope x s)) s any' h-any (subst (Every IsResolved) (pieces_Expr any') r).1)))

  typed_Factor : (minus' : Bool) (operand' : Operand) → Types-Operand operand' → Types-Factor (roll-Factor (record { minus = minus'; operand = operand' }))
  typed_Factor minus' operand' h-operand r s = subst HasType (sym (typing_Factor k scope minus' operand' s)) (holds_then IsType IsType (negative minus') (operand k scope operand' s) (h-operand (subst (Every IsResolved) (pieces_Factor minus' operand') r) s) (negative_typed minus'))

  typed_Further : (by' : SetOperator) (all' : Bool) (select' : Select) → Types-Select select' → Types-Further (roll-Further (record { by = by'; all = all'; select = select' }))
  typed_Further by' all' select' h-select r s = subst AllHaveTypes (sym (typing_Further k scope by' all' select' s)) (h-select (subst (Every IsResolved) (pieces_Further by' all' select') r) s)

  typed_Multiplied : (by' : Multiplicative) (factor' : Factor) → Types-Factor factor' → Types-Multiplied (roll-Multiplied (record { by = by'; factor = factor' }))
  typed_Multiplied by' factor' h-factor r s = subst HasType (sym (typing_Multiplied k scope by' factor' s)) (h-factor (subst (Every IsResolved) (pieces_Multiplied by' factor') r) s)

  typed_Negation : (negated' : Bool) (predicate' : Predicate) → Types-Predicate predicate' → Types-Negation (roll-Negation (record { negated = negated'; predicate = predicate' }))
  typed_Negation negated' predicate' h-predicate r s = subst HasType (sym (typing_Negation k scope negated' predicate' s)) (negated_typed negated' (predicate k scope predicate' s) (h-predicate (subst (Every IsResolved) (pieces_Negation negated' predicate') r) s))

  typed_Predicate : (tested' : Sum) (tail' : Option Tail) → Types-Sum tested' → Optional Types-Tail tail' → Types-Predicate (roll-Predicate (record { tested = tested'; tail = tail' }))
  typed_Predicate tested' tail' h-tested h-tail r s =
      let parts = subst (Every IsResolved) (pieces_Predicate tested' tail') r in
      subst HasType (sym (typing_Predicate k scope tested' tail' s))
      (by tail' h-tail (sum k scope tested' s) (h-tested (every_left IsResolved (sum_pieces tested') (optional_pieces (option_map tail_pieces tail')) parts) s))
    where
      by : (o : Option Tail) → Optional Types-Tail o → (a : Option SqlType) → HasType a → HasType (with_tail (option_map (tail k scope) o) s a)
      by None h a typed = typed
      by (Some x) h a typed = h s a

  typed_Query : (first' : Select) (others' : List Further) → Types-Select first' → Every Types-Further others' → Types-Query (roll-Query (record { first = first'; others = others' }))
  typed_Query first' others' h-first h-others r s =
      let parts = subst (Every IsResolved) (pieces_Query first' others') r in
      let first = every_left IsResolved (select_pieces first') (all_pieces (map further_pieces others')) parts in
      let others = every_right IsResolved (select_pieces first') (all_pieces (map further_pieces others')) parts in
      subst AllHaveTypes (sym (typing_Query k scope first' others' s))
      (holds_then (Every IsType) (Every IsType) (united s (map (further k scope) others')) (select k scope first' s) (h-first first s)
      (λ sorts typed. united_typed (further k scope) s sorts others' typed (all_at further_pieces (λ x s. AllHaveTypes (further k scope x s)) s others' h-others others)))

  typed_Sum : (first' : Term) (others' : List Added) → Types-Term first' → Every Types-Added others' → Types-Sum (roll-Sum (record { first = first'; others = others' }))
  typed_Sum first' others' h-first h-others r s =
      let parts = subst (Every IsResolved) (pieces_Sum first' others') r in
      subst HasType (sym (typing_Sum k scope first' others' s))
      (sum_of_typed (added k scope) s (term k scope first' s) others' (h-first (every_left IsResolved (term_pieces first') (all_pieces (map added_pieces others')) parts) s)
      (all_at added_pieces (λ x s. HasType ((added k scope x).1 s)) s others' h-others (every_right IsResolved (term_pieces first') (all_pieces (map added_pieces others')) parts)))

  typed_Term : (first' : Factor) (others' : List Multiplied) → Types-Factor first' → Every Types-Multiplied others' → Types-Term (roll-Term (record { first = first'; others = others' }))
  typed_Term first' others' h-first h-others r s =
      let parts = subst (Every IsResolved) (pieces_Term first' others') r in
      subst HasType (sym (typing_Term k scope first' others' s))
      (product_of_typed (multiplied k scope) s (factor k scope first' s) others' (h-first (every_left IsResolved (factor_pieces first') (all_pieces (map multiplied_pieces others')) parts) s)
      (all_at multiplied_pieces (λ x s. HasType (multiplied k scope x s)) s others' h-others (every_right IsResolved (factor_pieces first') (all_pieces (map multiplied_pieces others')) parts)))

  typed_Select : (distinct' : Bool) (list' : SelectList) (from' : List Chain) (filter' : Option Expr) (group_by' : List Reference) → Types-SelectList list' → Every Types-Chain from' → Optional Types-Expr filter' → Types-Select (roll-Select (record { distinct = distinct'; list = list'; from = from'; filter = filter'; group_by = group_by' }))
  typed_Select distinct' list' from' filter' group_by' h-list h-from h-filter r s =
      let parts = subst (Every IsResolved) (pieces_Select distinct' list' from' filter' group_by') r in
      let inner = frame (tables (map (chain k scope) from')) ∷ s in
      let listed = every_left IsResolved (select_list_pieces list') (some_pieces (map chain_pieces from'))
      (every_left IsResolved (select_list_pieces list' ++ some_pieces (map chain_pieces from')) (optional_pieces (option_map expr_pieces filter'))
      (every_left IsResolved ((select_list_pieces list' ++ some_pieces (map chain_pieces from')) ++ optional_pieces (option_map expr_pieces filter')) (map of_group group_by') parts)) in
      subst AllHaveTypes (sym (typing_Select k scope distinct' list' from' filter' group_by' s))
      (selected_typed (all_hold (map (chain k scope) from') inner) (holds (option_map (expr k scope) filter') inner) (select_list k scope list' inner) (h-list listed inner))

  abbrev Of : (Type 0 → Type 0 → Type 0 → Type 0 → Type 0 → Type 0 → Type 0 → Type 0 → Type 0 → Type 0 → Type 0 → Type 0 → Type 0 → Type 0 → Type 0 → Type 0 → Type 0 → Type 0 → Type 0 → Type 0) → Type 0
  Of L = L ((x : Join) × Types-Join x) ((x : Operand) × Types-Operand x) ((x : SelectItem) × Types-SelectItem x) ((x : SelectList) × Types-SelectList x) ((x : Tail) × Types-Tail x) ((x : Added) × Types-Added x) ((x : Arm) × Types-Arm x) ((x : Chain) × Types-Chain x) ((x : Conjunction) × Types-Conjunction x) ((x : Expr) × Types-Expr x) ((x : Factor) × Types-Factor x) ((x : Further) × Types-Further x) ((x : Multiplied) × Types-Multiplied x) ((x : Negation) × Types-Negation x) ((x : Predicate) × Types-Predicate x) ((x : Query) × Types-Query x) ((x : Select) × Types-Select x) ((x : Sum) × Types-Sum x) ((x : Term) × Types-Term x)

  step_Join : (y : Of Join-F) → Types-Join (roll-Join (map-Join ((x : Join) × Types-Join x) ((x : Operand) × Types-Operand x) ((x : SelectItem) × Types-SelectItem x) ((x : SelectList) × Types-SelectList x) ((x : Tail) × Types-Tail x) ((x : Added) × Types-Added x) ((x : Arm) × Types-Arm x) ((x : Chain) × Types-Chain x) ((x : Conjunction) × Types-Conjunction x) ((x : Expr) × Types-Expr x) ((x : Factor) × Types-Factor x) ((x : Further) × Types-Further x) ((x : Multiplied) × Types-Multiplied x) ((x : Negation) × Types-Negation x) ((x : Predicate) × Types-Predicate x) ((x : Query) × Types-Query x) ((x : Select) × Types-Select x) ((x : Sum) × Types-Sum x) ((x : Term) × Types-Term x) Join Operand SelectItem SelectList Tail Added Arm Chain Conjunction Expr Factor Further Multiplied Negation Predicate Query Select Sum Term (λ e. e.0) (λ e. e.0) (λ e. e.0) (λ e. e.0) (λ e. e.0) (λ e. e.0) (λ e. e.0) (λ e. e.0) (λ e. e.0) (λ e. e.0) (λ e. e.0) (λ e. e.0) (λ e. e.0) (λ e. e.0) (λ e. e.0) (λ e. e.0) (λ e. e.0) (λ e. e.0) (λ e. e.0) y))
  step_Join (Join-F.Inner table' on') = typed_Join_Inner table' on'.0 on'.1
  step_Join (Join-F.Cross table') = typed_Join_Cross table'

  step_Operand : (y : Of Operand-F) → Types-Operand (roll-Operand (map-Operand ((x : Join) × Types-Join x) ((x : Operand) × Types-Operand x) ((x : SelectItem) × Types-SelectItem x) ((x : SelectList) × Types-SelectList x) ((x : Tail) × Types-Tail x) ((x : Added) × Types-Added x) ((x : Arm) × Types-Arm x) ((x : Chain) × Types-Chain x) ((x : Conjunction) × Types-Conjunction x) ((x : Expr) × Types-Expr x) ((x : Factor) × Types-Factor x) ((x : Further) × Types-Further x) ((x : Multiplied) × Types-Multiplied x) ((x : Negation) × Types-Negation x) ((x : Predicate) × Types-Predicate x) ((x : Query) × Types-Query x) ((x : Select) × Types-Select x) ((x : Sum) × Types-Sum x) ((x : Term) × Types-Term x) Join Operand SelectItem SelectList Tail Added Arm Chain Conjunction Expr Factor Further Multiplied Negation Predicate Query Select Sum Term (λ e. e.0) (λ e. e.0) (λ e. e.0) (λ e. e.0) (λ e. e.0) (λ e. e.0) (λ e. e.0) (λ e. e.0) (λ e. e.0) (λ e. e.0) (λ e. e.0) (λ e. e.0) (λ e. e.0) (λ e. e.0) (λ e. e.0) (λ e. e.0) (λ e. e.0) (λ e. e.0) (λ e. e.0) y))
  step_Operand (Operand-F.Literal text') = typed_Operand_Literal text'
  step_Operand (Operand-F.Number text') = typed_Operand_Number text'
  step_Operand Operand-F.True = typed_Operand_True
  step_Operand Operand-F.False = typed_Operand_False
  step_Operand (Operand-F.Special special') = typed_Operand_Special special'
  step_Operand Operand-F.Value = typed_Operand_Value
  step_Operand (Operand-F.Reference r') = typed_Operand_Reference r'
  step_Operand (Operand-F.Call f' es') = typed_Operand_Call f' (map (λ e. e.0) es') (firsts Types-Expr es')
  step_Operand Operand-F.CountAll = typed_Operand_CountAll
  step_Operand (Operand-F.Aggregate by' e') = typed_Operand_Aggregate by' e'.0 e'.1
  step_Operand (Operand-F.Case arms' None) = typed_Operand_Case (map (λ e. e.0) arms') None (firsts Types-Arm arms') tt
  step_Operand (Operand-F.Case arms' (Some o)) = typed_Operand_Case (map (λ e. e.0) arms') (Some o.0) (firsts Types-Arm arms') o.1
  step_Operand (Operand-F.Cast None sort') = typed_Operand_Cast None sort' tt
  step_Operand (Operand-F.Cast (Some o) sort') = typed_Operand_Cast (Some o.0) sort' o.1
  step_Operand (Operand-F.Exists q') = typed_Operand_Exists q'.0 q'.1
  step_Operand (Operand-F.Subquery q') = typed_Operand_Subquery q'.0 q'.1
  step_Operand (Operand-F.Parenthesized e') = typed_Operand_Parenthesized e'.0 e'.1

  step_SelectItem : (y : Of SelectItem-F) → Types-SelectItem (roll-SelectItem (map-SelectItem ((x : Join) × Types-Join x) ((x : Operand) × Types-Operand x) ((x : SelectItem) × Types-SelectItem x) ((x : SelectList) × Types-SelectList x) ((x : Tail) × Types-Tail x) ((x : Added) × Types-Added x) ((x : Arm) × Types-Arm x) ((x : Chain) × Types-Chain x) ((x : Conjunction) × Types-Conjunction x) ((x : Expr) × Types-Expr x) ((x : Factor) × Types-Factor x) ((x : Further) × Types-Further x) ((x : Multiplied) × Types-Multiplied x) ((x : Negation) × Types-Negation x) ((x : Predicate) × Types-Predicate x) ((x : Query) × Types-Query x) ((x : Select) × Types-Select x) ((x : Sum) × Types-Sum x) ((x : Term) × Types-Term x) Join Operand SelectItem SelectList Tail Added Arm Chain Conjunction Expr Factor Further Multiplied Negation Predicate Query Select Sum Term (λ e. e.0) (λ e. e.0) (λ e. e.0) (λ e. e.0) (λ e. e.0) (λ e. e.0) (λ e. e.0) (λ e. e.0) (λ e. e.0) (λ e. e.0) (λ e. e.0) (λ e. e.0) (λ e. e.0) (λ e. e.0) (λ e. e.0) (λ e. e.0) (λ e. e.0) (λ e. e.0) (λ e. e.0) y))
  step_SelectItem (SelectItem-F.Expr e' name') = typed_SelectItem_Expr e'.0 name' e'.1
  step_SelectItem (SelectItem-F.QualifiedStar q') = typed_SelectItem_QualifiedStar q'

  step_SelectList : (y : Of SelectList-F) → Types-SelectList (roll-SelectList (map-SelectList ((x : Join) × Types-Join x) ((x : Operand) × Types-Operand x) ((x : SelectItem) × Types-SelectItem x) ((x : SelectList) × Types-SelectList x) ((x : Tail) × Types-Tail x) ((x : Added) × Types-Added x) ((x : Arm) × Types-Arm x) ((x : Chain) × Types-Chain x) ((x : Conjunction) × Types-Conjunction x) ((x : Expr) × Types-Expr x) ((x : Factor) × Types-Factor x) ((x : Further) × Types-Further x) ((x : Multiplied) × Types-Multiplied x) ((x : Negation) × Types-Negation x) ((x : Predicate) × Types-Predicate x) ((x : Query) × Types-Query x) ((x : Select) × Types-Select x) ((x : Sum) × Types-Sum x) ((x : Term) × Types-Term x) Join Operand SelectItem SelectList Tail Added Arm Chain Conjunction Expr Factor Further Multiplied Negation Predicate Query Select Sum Term (λ e. e.0) (λ e. e.0) (λ e. e.0) (λ e. e.0) (λ e. e.0) (λ e. e.0) (λ e. e.0) (λ e. e.0) (λ e. e.0) (λ e. e.0) (λ e. e.0) (λ e. e.0) (λ e. e.0) (λ e. e.0) (λ e. e.0) (λ e. e.0) (λ e. e.0) (λ e. e.0) (λ e. e.0) y))
  step_SelectList SelectList-F.Star = typed_SelectList_Star
  step_SelectList (SelectList-F.Listed is') = typed_SelectList_Listed (map (λ e. e.0) is') (firsts Types-SelectItem is')

  step_Tail : (y : Of Tail-F) → Types-Tail (roll-Tail (map-Tail ((x : Join) × Types-Join x) ((x : Operand) × Types-Operand x) ((x : SelectItem) × Types-SelectItem x) ((x : SelectList) × Types-SelectList x) ((x : Tail) × Types-Tail x) ((x : Added) × Types-Added x) ((x : Arm) × Types-Arm x) ((x : Chain) × Types-Chain x) ((x : Conjunction) × Types-Conjunction x) ((x : Expr) × Types-Expr x) ((x : Factor) × Types-Factor x) ((x : Further) × Types-Further x) ((x : Multiplied) × Types-Multiplied x) ((x : Negation) × Types-Negation x) ((x : Predicate) × Types-Predicate x) ((x : Query) × Types-Query x) ((x : Select) × Types-Select x) ((x : Sum) × Types-Sum x) ((x : Term) × Types-Term x) Join Operand SelectItem SelectList Tail Added Arm Chain Conjunction Expr Factor Further Multiplied Negation Predicate Query Select Sum Term (λ e. e.0) (λ e. e.0) (λ e. e.0) (λ e. e.0) (λ e. e.0) (λ e. e.0) (λ e. e.0) (λ e. e.0) (λ e. e.0) (λ e. e.0) (λ e. e.0) (λ e. e.0) (λ e. e.0) (λ e. e.0) (λ e. e.0) (λ e. e.0) (λ e. e.0) (λ e. e.0) (λ e. e.0) y))
  step_Tail (Tail-F.Compare by' x') = typed_Tail_Compare by' x'.0 x'.1
  step_Tail (Tail-F.IsNull negated') = typed_Tail_IsNull negated'
  step_Tail (Tail-F.Between negated' x' y') = typed_Tail_Between negated' x'.0 y'.0 x'.1 y'.1
  step_Tail (Tail-F.InQuery negated' q') = typed_Tail_InQuery negated' q'.0 q'.1
  step_Tail (Tail-F.InList negated' es') = typed_Tail_InList negated' (map (λ e. e.0) es') (firsts Types-Expr es')
  step_Tail (Tail-F.Like negated' x') = typed_Tail_Like negated' x'.0 x'.1

  step_Added : (y : Of Added-F) → Types-Added (roll-Added (map-Added ((x : Join) × Types-Join x) ((x : Operand) × Types-Operand x) ((x : SelectItem) × Types-SelectItem x) ((x : SelectList) × Types-SelectList x) ((x : Tail) × Types-Tail x) ((x : Added) × Types-Added x) ((x : Arm) × Types-Arm x) ((x : Chain) × Types-Chain x) ((x : Conjunction) × Types-Conjunction x) ((x : Expr) × Types-Expr x) ((x : Factor) × Types-Factor x) ((x : Further) × Types-Further x) ((x : Multiplied) × Types-Multiplied x) ((x : Negation) × Types-Negation x) ((x : Predicate) × Types-Predicate x) ((x : Query) × Types-Query x) ((x : Select) × Types-Select x) ((x : Sum) × Types-Sum x) ((x : Term) × Types-Term x) Join Operand SelectItem SelectList Tail Added Arm Chain Conjunction Expr Factor Further Multiplied Negation Predicate Query Select Sum Term (λ e. e.0) (λ e. e.0) (λ e. e.0) (λ e. e.0) (λ e. e.0) (λ e. e.0) (λ e. e.0) (λ e. e.0) (λ e. e.0) (λ e. e.0) (λ e. e.0) (λ e. e.0) (λ e. e.0) (λ e. e.0) (λ e. e.0) (λ e. e.0) (λ e. e.0) (λ e. e.0) (λ e. e.0) y))
  step_Added y = typed_Added y.by y.term.0 y.term.1

  step_Arm : (y : Of Arm-F) → Types-Arm (roll-Arm (map-Arm ((x : Join) × Types-Join x) ((x : Operand) × Types-Operand x) ((x : SelectItem) × Types-SelectItem x) ((x : SelectList) × Types-SelectList x) ((x : Tail) × Types-Tail x) ((x : Added) × Types-Added x) ((x : Arm) × Types-Arm x) ((x : Chain) × Types-Chain x) ((x : Conjunction) × Types-Conjunction x) ((x : Expr) × Types-Expr x) ((x : Factor) × Types-Factor x) ((x : Further) × Types-Further x) ((x : Multiplied) × Types-Multiplied x) ((x : Negation) × Types-Negation x) ((x : Predicate) × Types-Predicate x) ((x : Query) × Types-Query x) ((x : Select) × Types-Select x) ((x : Sum) × Types-Sum x) ((x : Term) × Types-Term x) Join Operand SelectItem SelectList Tail Added Arm Chain Conjunction Expr Factor Further Multiplied Negation Predicate Query Select Sum Term (λ e. e.0) (λ e. e.0) (λ e. e.0) (λ e. e.0) (λ e. e.0) (λ e. e.0) (λ e. e.0) (λ e. e.0) (λ e. e.0) (λ e. e.0) (λ e. e.0) (λ e. e.0) (λ e. e.0) (λ e. e.0) (λ e. e.0) (λ e. e.0) (λ e. e.0) (λ e. e.0) (λ e. e.0) y))
  step_Arm y = typed_Arm y.condition.0 y.value.0 y.condition.1 y.value.1

  step_Chain : (y : Of Chain-F) → Types-Chain (roll-Chain (map-Chain ((x : Join) × Types-Join x) ((x : Operand) × Types-Operand x) ((x : SelectItem) × Types-SelectItem x) ((x : SelectList) × Types-SelectList x) ((x : Tail) × Types-Tail x) ((x : Added) × Types-Added x) ((x : Arm) × Types-Arm x) ((x : Chain) × Types-Chain x) ((x : Conjunction) × Types-Conjunction x) ((x : Expr) × Types-Expr x) ((x : Factor) × Types-Factor x) ((x : Further) × Types-Further x) ((x : Multiplied) × Types-Multiplied x) ((x : Negation) × Types-Negation x) ((x : Predicate) × Types-Predicate x) ((x : Query) × Types-Query x) ((x : Select) × Types-Select x) ((x : Sum) × Types-Sum x) ((x : Term) × Types-Term x) Join Operand SelectItem SelectList Tail Added Arm Chain Conjunction Expr Factor Further Multiplied Negation Predicate Query Select Sum Term (λ e. e.0) (λ e. e.0) (λ e. e.0) (λ e. e.0) (λ e. e.0) (λ e. e.0) (λ e. e.0) (λ e. e.0) (λ e. e.0) (λ e. e.0) (λ e. e.0) (λ e. e.0) (λ e. e.0) (λ e. e.0) (λ e. e.0) (λ e. e.0) (λ e. e.0) (λ e. e.0) (λ e. e.0) y))
  step_Chain y = typed_Chain y.first (map (λ e. e.0) y.joins) (firsts Types-Join y.joins)

  step_Conjunction : (y : Of Conjunction-F) → Types-Conjunction (roll-Conjunction (map-Conjunction ((x : Join) × Types-Join x) ((x : Operand) × Types-Operand x) ((x : SelectItem) × Types-SelectItem x) ((x : SelectList) × Types-SelectList x) ((x : Tail) × Types-Tail x) ((x : Added) × Types-Added x) ((x : Arm) × Types-Arm x) ((x : Chain) × Types-Chain x) ((x : Conjunction) × Types-Conjunction x) ((x : Expr) × Types-Expr x) ((x : Factor) × Types-Factor x) ((x : Further) × Types-Further x) ((x : Multiplied) × Types-Multiplied x) ((x : Negation) × Types-Negation x) ((x : Predicate) × Types-Predicate x) ((x : Query) × Types-Query x) ((x : Select) × Types-Select x) ((x : Sum) × Types-Sum x) ((x : Term) × Types-Term x) Join Operand SelectItem SelectList Tail Added Arm Chain Conjunction Expr Factor Further Multiplied Negation Predicate Query Select Sum Term (λ e. e.0) (λ e. e.0) (λ e. e.0) (λ e. e.0) (λ e. e.0) (λ e. e.0) (λ e. e.0) (λ e. e.0) (λ e. e.0) (λ e. e.0) (λ e. e.0) (λ e. e.0) (λ e. e.0) (λ e. e.0) (λ e. e.0) (λ e. e.0) (λ e. e.0) (λ e. e.0) (λ e. e.0) y))
  step_Conjunction y = typed_Conjunction (map (λ e. e.0) y.every) (firsts Types-Negation y.every)

  step_Expr : (y : Of Expr-F) → Types-Expr (roll-Expr (map-Expr ((x : Join) × Types-Join x) ((x : Operand) × Types-Operand x) ((x : SelectItem) × Types-SelectItem x) ((x : SelectList) × Types-SelectList x) ((x : Tail) × Types-Tail x) ((x : Added) × Types-Added x) ((x : Arm) × Types-Arm x) ((x : Chain) × Types-Chain x) ((x : Conjunction) × Types-Conjunction x) ((x : Expr) × Types-Expr x) ((x : Factor) × Types-Factor x) ((x : Further) × Types-Further x) ((x : Multiplied) × Types-Multiplied x) ((x : Negation) × Types-Negation x) ((x : Predicate) × Types-Predicate x) ((x : Query) × Types-Query x) ((x : Select) × Types-Select x) ((x : Sum) × Types-Sum x) ((x : Term) × Types-Term x) Join Operand SelectItem SelectList Tail Added Arm Chain Conjunction Expr Factor Further Multiplied Negation Predicate Query Select Sum Term (λ e. e.0) (λ e. e.0) (λ e. e.0) (λ e. e.0) (λ e. e.0) (λ e. e.0) (λ e. e.0) (λ e. e.0) (λ e. e.0) (λ e. e.0) (λ e. e.0) (λ e. e.0) (λ e. e.0) (λ e. e.0) (λ e. e.0) (λ e. e.0) (λ e. e.0) (λ e. e.0) (λ e. e.0) y))
  step_Expr y = typed_Expr (map (λ e. e.0) y.any) (firsts Types-Conjunction y.any)

  step_Factor : (y : Of Factor-F) → Types-Factor (roll-Factor (map-Factor ((x : Join) × Types-Join x) ((x : Operand) × Types-Operand x) ((x : SelectItem) × Types-SelectItem x) ((x : SelectList) × Types-SelectList x) ((x : Tail) × Types-Tail x) ((x : Added) × Types-Added x) ((x : Arm) × Types-Arm x) ((x : Chain) × Types-Chain x) ((x : Conjunction) × Types-Conjunction x) ((x : Expr) × Types-Expr x) ((x : Factor) × Types-Factor x) ((x : Further) × Types-Further x) ((x : Multiplied) × Types-Multiplied x) ((x : Negation) × Types-Negation x) ((x : Predicate) × Types-Predicate x) ((x : Query) × Types-Query x) ((x : Select) × Types-Select x) ((x : Sum) × Types-Sum x) ((x : Term) × Types-Term x) Join Operand SelectItem SelectList Tail Added Arm Chain Conjunction Expr Factor Further Multiplied Negation Predicate Query Select Sum Term (λ e. e.0) (λ e. e.0) (λ e. e.0) (λ e. e.0) (λ e. e.0) (λ e. e.0) (λ e. e.0) (λ e. e.0) (λ e. e.0) (λ e. e.0) (λ e. e.0) (λ e. e.0) (λ e. e.0) (λ e. e.0) (λ e. e.0) (λ e. e.0) (λ e. e.0) (λ e. e.0) (λ e. e.0) y))
  step_Factor y = typed_Factor y.minus y.operand.0 y.operand.1

  step_Further : (y : Of Further-F) → Types-Further (roll-Further (map-Further ((x : Join) × Types-Join x) ((x : Operand) × Types-Operand x) ((x : SelectItem) × Types-SelectItem x) ((x : SelectList) × Types-SelectList x) ((x : Tail) × Types-Tail x) ((x : Added) × Types-Added x) ((x : Arm) × Types-Arm x) ((x : Chain) × Types-Chain x) ((x : Conjunction) × Types-Conjunction x) ((x : Expr) × Types-Expr x) ((x : Factor) × Types-Factor x) ((x : Further) × Types-Further x) ((x : Multiplied) × Types-Multiplied x) ((x : Negation) × Types-Negation x) ((x : Predicate) × Types-Predicate x) ((x : Query) × Types-Query x) ((x : Select) × Types-Select x) ((x : Sum) × Types-Sum x) ((x : Term) × Types-Term x) Join Operand SelectItem SelectList Tail Added Arm Chain Conjunction Expr Factor Further Multiplied Negation Predicate Query Select Sum Term (λ e. e.0) (λ e. e.0) (λ e. e.0) (λ e. e.0) (λ e. e.0) (λ e. e.0) (λ e. e.0) (λ e. e.0) (λ e. e.0) (λ e. e.0) (λ e. e.0) (λ e. e.0) (λ e. e.0) (λ e. e.0) (λ e. e.0) (λ e. e.0) (λ e. e.0) (λ e. e.0) (λ e. e.0) y))
  step_Further y = typed_Further y.by y.all y.select.0 y.select.1

  step_Multiplied : (y : Of Multiplied-F) → Types-Multiplied (roll-Multiplied (map-Multiplied ((x : Join) × Types-Join x) ((x : Operand) × Types-Operand x) ((x : SelectItem) × Types-SelectItem x) ((x : SelectList) × Types-SelectList x) ((x : Tail) × Types-Tail x) ((x : Added) × Types-Added x) ((x : Arm) × Types-Arm x) ((x : Chain) × Types-Chain x) ((x : Conjunction) × Types-Conjunction x) ((x : Expr) × Types-Expr x) ((x : Factor) × Types-Factor x) ((x : Further) × Types-Further x) ((x : Multiplied) × Types-Multiplied x) ((x : Negation) × Types-Negation x) ((x : Predicate) × Types-Predicate x) ((x : Query) × Types-Query x) ((x : Select) × Types-Select x) ((x : Sum) × Types-Sum x) ((x : Term) × Types-Term x) Join Operand SelectItem SelectList Tail Added Arm Chain Conjunction Expr Factor Further Multiplied Negation Predicate Query Select Sum Term (λ e. e.0) (λ e. e.0) (λ e. e.0) (λ e. e.0) (λ e. e.0) (λ e. e.0) (λ e. e.0) (λ e. e.0) (λ e. e.0) (λ e. e.0) (λ e. e.0) (λ e. e.0) (λ e. e.0) (λ e. e.0) (λ e. e.0) (λ e. e.0) (λ e. e.0) (λ e. e.0) (λ e. e.0) y))
  step_Multiplied y = typed_Multiplied y.by y.factor.0 y.factor.1

  step_Negation : (y : Of Negation-F) → Types-Negation (roll-Negation (map-Negation ((x : Join) × Types-Join x) ((x : Operand) × Types-Operand x) ((x : SelectItem) × Types-SelectItem x) ((x : SelectList) × Types-SelectList x) ((x : Tail) × Types-Tail x) ((x : Added) × Types-Added x) ((x : Arm) × Types-Arm x) ((x : Chain) × Types-Chain x) ((x : Conjunction) × Types-Conjunction x) ((x : Expr) × Types-Expr x) ((x : Factor) × Types-Factor x) ((x : Further) × Types-Further x) ((x : Multiplied) × Types-Multiplied x) ((x : Negation) × Types-Negation x) ((x : Predicate) × Types-Predicate x) ((x : Query) × Types-Query x) ((x : Select) × Types-Select x) ((x : Sum) × Types-Sum x) ((x : Term) × Types-Term x) Join Operand SelectItem SelectList Tail Added Arm Chain Conjunction Expr Factor Further Multiplied Negation Predicate Query Select Sum Term (λ e. e.0) (λ e. e.0) (λ e. e.0) (λ e. e.0) (λ e. e.0) (λ e. e.0) (λ e. e.0) (λ e. e.0) (λ e. e.0) (λ e. e.0) (λ e. e.0) (λ e. e.0) (λ e. e.0) (λ e. e.0) (λ e. e.0) (λ e. e.0) (λ e. e.0) (λ e. e.0) (λ e. e.0) y))
  step_Negation y = typed_Negation y.negated y.predicate.0 y.predicate.1

  step_Predicate : (y : Of Predicate-F) → Types-Predicate (roll-Predicate (map-Predicate ((x : Join) × Types-Join x) ((x : Operand) × Types-Operand x) ((x : SelectItem) × Types-SelectItem x) ((x : SelectList) × Types-SelectList x) ((x : Tail) × Types-Tail x) ((x : Added) × Types-Added x) ((x : Arm) × Types-Arm x) ((x : Chain) × Types-Chain x) ((x : Conjunction) × Types-Conjunction x) ((x : Expr) × Types-Expr x) ((x : Factor) × Types-Factor x) ((x : Further) × Types-Further x) ((x : Multiplied) × Types-Multiplied x) ((x : Negation) × Types-Negation x) ((x : Predicate) × Types-Predicate x) ((x : Query) × Types-Query x) ((x : Select) × Types-Select x) ((x : Sum) × Types-Sum x) ((x : Term) × Types-Term x) Join Operand SelectItem SelectList Tail Added Arm Chain Conjunction Expr Factor Further Multiplied Negation Predicate Query Select Sum Term (λ e. e.0) (λ e. e.0) (λ e. e.0) (λ e. e.0) (λ e. e.0) (λ e. e.0) (λ e. e.0) (λ e. e.0) (λ e. e.0) (λ e. e.0) (λ e. e.0) (λ e. e.0) (λ e. e.0) (λ e. e.0) (λ e. e.0) (λ e. e.0) (λ e. e.0) (λ e. e.0) (λ e. e.0) y))
  step_Predicate y = cases y.tail
    where
      cases : (o : Option ((x : Tail) × Types-Tail x)) → Types-Predicate (roll-Predicate (map-Predicate ((x : Join) × Types-Join x) ((x : Operand) × Types-Operand x) ((x : SelectItem) × Types-SelectItem x) ((x : SelectList) × Types-SelectList x) ((x : Tail) × Types-Tail x) ((x : Added) × Types-Added x) ((x : Arm) × Types-Arm x) ((x : Chain) × Types-Chain x) ((x : Conjunction) × Types-Conjunction x) ((x : Expr) × Types-Expr x) ((x : Factor) × Types-Factor x) ((x : Further) × Types-Further x) ((x : Multiplied) × Types-Multiplied x) ((x : Negation) × Types-Negation x) ((x : Predicate) × Types-Predicate x) ((x : Query) × Types-Query x) ((x : Select) × Types-Select x) ((x : Sum) × Types-Sum x) ((x : Term) × Types-Term x) Join Operand SelectItem SelectList Tail Added Arm Chain Conjunction Expr Factor Further Multiplied Negation Predicate Query Select Sum Term (λ e. e.0) (λ e. e.0) (λ e. e.0) (λ e. e.0) (λ e. e.0) (λ e. e.0) (λ e. e.0) (λ e. e.0) (λ e. e.0) (λ e. e.0) (λ e. e.0) (λ e. e.0) (λ e. e.0) (λ e. e.0) (λ e. e.0) (λ e. e.0) (λ e. e.0) (λ e. e.0) (λ e. e.0) (record y { tail = o })))
      cases None = typed_Predicate y.tested.0 None y.tested.1 tt
      cases (Some o) = typed_Predicate y.tested.0 (Some o.0) y.tested.1 o.1

  step_Query : (y : Of Query-F) → Types-Query (roll-Query (map-Query ((x : Join) × Types-Join x) ((x : Operand) × Types-Operand x) ((x : SelectItem) × Types-SelectItem x) ((x : SelectList) × Types-SelectList x) ((x : Tail) × Types-Tail x) ((x : Added) × Types-Added x) ((x : Arm) × Types-Arm x) ((x : Chain) × Types-Chain x) ((x : Conjunction) × Types-Conjunction x) ((x : Expr) × Types-Expr x) ((x : Factor) × Types-Factor x) ((x : Further) × Types-Further x) ((x : Multiplied) × Types-Multiplied x) ((x : Negation) × Types-Negation x) ((x : Predicate) × Types-Predicate x) ((x : Query) × Types-Query x) ((x : Select) × Types-Select x) ((x : Sum) × Types-Sum x) ((x : Term) × Types-Term x) Join Operand SelectItem SelectList Tail Added Arm Chain Conjunction Expr Factor Further Multiplied Negation Predicate Query Select Sum Term (λ e. e.0) (λ e. e.0) (λ e. e.0) (λ e. e.0) (λ e. e.0) (λ e. e.0) (λ e. e.0) (λ e. e.0) (λ e. e.0) (λ e. e.0) (λ e. e.0) (λ e. e.0) (λ e. e.0) (λ e. e.0) (λ e. e.0) (λ e. e.0) (λ e. e.0) (λ e. e.0) (λ e. e.0) y))
  step_Query y = typed_Query y.first.0 (map (λ e. e.0) y.others) y.first.1 (firsts Types-Further y.others)

  step_Select : (y : Of Select-F) → Types-Select (roll-Select (map-Select ((x : Join) × Types-Join x) ((x : Operand) × Types-Operand x) ((x : SelectItem) × Types-SelectItem x) ((x : SelectList) × Types-SelectList x) ((x : Tail) × Types-Tail x) ((x : Added) × Types-Added x) ((x : Arm) × Types-Arm x) ((x : Chain) × Types-Chain x) ((x : Conjunction) × Types-Conjunction x) ((x : Expr) × Types-Expr x) ((x : Factor) × Types-Factor x) ((x : Further) × Types-Further x) ((x : Multiplied) × Types-Multiplied x) ((x : Negation) × Types-Negation x) ((x : Predicate) × Types-Predicate x) ((x : Query) × Types-Query x) ((x : Select) × Types-Select x) ((x : Sum) × Types-Sum x) ((x : Term) × Types-Term x) Join Operand SelectItem SelectList Tail Added Arm Chain Conjunction Expr Factor Further Multiplied Negation Predicate Query Select Sum Term (λ e. e.0) (λ e. e.0) (λ e. e.0) (λ e. e.0) (λ e. e.0) (λ e. e.0) (λ e. e.0) (λ e. e.0) (λ e. e.0) (λ e. e.0) (λ e. e.0) (λ e. e.0) (λ e. e.0) (λ e. e.0) (λ e. e.0) (λ e. e.0) (λ e. e.0) (λ e. e.0) (λ e. e.0) y))
  step_Select y = cases y.filter
    where
      cases : (o : Option ((x : Expr) × Types-Expr x)) → Types-Select (roll-Select (map-Select ((x : Join) × Types-Join x) ((x : Operand) × Types-Operand x) ((x : SelectItem) × Types-SelectItem x) ((x : SelectList) × Types-SelectList x) ((x : Tail) × Types-Tail x) ((x : Added) × Types-Added x) ((x : Arm) × Types-Arm x) ((x : Chain) × Types-Chain x) ((x : Conjunction) × Types-Conjunction x) ((x : Expr) × Types-Expr x) ((x : Factor) × Types-Factor x) ((x : Further) × Types-Further x) ((x : Multiplied) × Types-Multiplied x) ((x : Negation) × Types-Negation x) ((x : Predicate) × Types-Predicate x) ((x : Query) × Types-Query x) ((x : Select) × Types-Select x) ((x : Sum) × Types-Sum x) ((x : Term) × Types-Term x) Join Operand SelectItem SelectList Tail Added Arm Chain Conjunction Expr Factor Further Multiplied Negation Predicate Query Select Sum Term (λ e. e.0) (λ e. e.0) (λ e. e.0) (λ e. e.0) (λ e. e.0) (λ e. e.0) (λ e. e.0) (λ e. e.0) (λ e. e.0) (λ e. e.0) (λ e. e.0) (λ e. e.0) (λ e. e.0) (λ e. e.0) (λ e. e.0) (λ e. e.0) (λ e. e.0) (λ e. e.0) (λ e. e.0) (record y { filter = o })))
      cases None = typed_Select y.distinct y.list.0 (map (λ e. e.0) y.from) None y.group_by y.list.1 (firsts Types-Chain y.from) tt
      cases (Some o) = typed_Select y.distinct y.list.0 (map (λ e. e.0) y.from) (Some o.0) y.group_by y.list.1 (firsts Types-Chain y.from) o.1

  step_Sum : (y : Of Sum-F) → Types-Sum (roll-Sum (map-Sum ((x : Join) × Types-Join x) ((x : Operand) × Types-Operand x) ((x : SelectItem) × Types-SelectItem x) ((x : SelectList) × Types-SelectList x) ((x : Tail) × Types-Tail x) ((x : Added) × Types-Added x) ((x : Arm) × Types-Arm x) ((x : Chain) × Types-Chain x) ((x : Conjunction) × Types-Conjunction x) ((x : Expr) × Types-Expr x) ((x : Factor) × Types-Factor x) ((x : Further) × Types-Further x) ((x : Multiplied) × Types-Multiplied x) ((x : Negation) × Types-Negation x) ((x : Predicate) × Types-Predicate x) ((x : Query) × Types-Query x) ((x : Select) × Types-Select x) ((x : Sum) × Types-Sum x) ((x : Term) × Types-Term x) Join Operand SelectItem SelectList Tail Added Arm Chain Conjunction Expr Factor Further Multiplied Negation Predicate Query Select Sum Term (λ e. e.0) (λ e. e.0) (λ e. e.0) (λ e. e.0) (λ e. e.0) (λ e. e.0) (λ e. e.0) (λ e. e.0) (λ e. e.0) (λ e. e.0) (λ e. e.0) (λ e. e.0) (λ e. e.0) (λ e. e.0) (λ e. e.0) (λ e. e.0) (λ e. e.0) (λ e. e.0) (λ e. e.0) y))
  step_Sum y = typed_Sum y.first.0 (map (λ e. e.0) y.others) y.first.1 (firsts Types-Added y.others)

  step_Term : (y : Of Term-F) → Types-Term (roll-Term (map-Term ((x : Join) × Types-Join x) ((x : Operand) × Types-Operand x) ((x : SelectItem) × Types-SelectItem x) ((x : SelectList) × Types-SelectList x) ((x : Tail) × Types-Tail x) ((x : Added) × Types-Added x) ((x : Arm) × Types-Arm x) ((x : Chain) × Types-Chain x) ((x : Conjunction) × Types-Conjunction x) ((x : Expr) × Types-Expr x) ((x : Factor) × Types-Factor x) ((x : Further) × Types-Further x) ((x : Multiplied) × Types-Multiplied x) ((x : Negation) × Types-Negation x) ((x : Predicate) × Types-Predicate x) ((x : Query) × Types-Query x) ((x : Select) × Types-Select x) ((x : Sum) × Types-Sum x) ((x : Term) × Types-Term x) Join Operand SelectItem SelectList Tail Added Arm Chain Conjunction Expr Factor Further Multiplied Negation Predicate Query Select Sum Term (λ e. e.0) (λ e. e.0) (λ e. e.0) (λ e. e.0) (λ e. e.0) (λ e. e.0) (λ e. e.0) (λ e. e.0) (λ e. e.0) (λ e. e.0) (λ e. e.0) (λ e. e.0) (λ e. e.0) (λ e. e.0) (λ e. e.0) (λ e. e.0) (λ e. e.0) (λ e. e.0) (λ e. e.0) y))
  step_Term y = typed_Term y.first.0 (map (λ e. e.0) y.others) y.first.1 (firsts Types-Multiplied y.others)

  pub query_typed : (x : Query) → Types-Query x
  query_typed = ind-Query Types-Join Types-Operand Types-SelectItem Types-SelectList Types-Tail Types-Added Types-Arm Types-Chain Types-Conjunction Types-Expr Types-Factor Types-Further Types-Multiplied Types-Negation Types-Predicate Types-Query Types-Select Types-Sum Types-Term
      (λ x y is. subst (λ z. Types-Join (roll-Join z)) is (step_Join y)) (λ x y is. subst (λ z. Types-Operand (roll-Operand z)) is (step_Operand y)) (λ x y is. subst (λ z. Types-SelectItem (roll-SelectItem z)) is (step_SelectItem y)) (λ x y is. subst (λ z. Types-SelectList (roll-SelectList z)) is (step_SelectList y)) (λ x y is. subst (λ z. Types-Tail (roll-Tail z)) is (step_Tail y)) (λ x y is. subst (λ z. Types-Added (roll-Added z)) is (step_Added y)) (λ x y is. subst (λ z. Types-Arm (roll-Arm z)) is (step_Arm y)) (λ x y is. subst (λ z. Types-Chain (roll-Chain z)) is (step_Chain y)) (λ x y is. subst (λ z. Types-Conjunction (roll-Conjunction z)) is (step_Conjunction y)) (λ x y is. subst (λ z. Types-Expr (roll-Expr z)) is (step_Expr y)) (λ x y is. subst (λ z. Types-Factor (roll-Factor z)) is (step_Factor y)) (λ x y is. subst (λ z. Types-Further (roll-Further z)) is (step_Further y)) (λ x y is. subst (λ z. Types-Multiplied (roll-Multiplied z)) is (step_Multiplied y)) (λ x y is. subst (λ z. Types-Negation (roll-Negation z)) is (step_Negation y)) (λ x y is. subst (λ z. Types-Predicate (roll-Predicate z)) is (step_Predicate y)) (λ x y is. subst (λ z. Types-Query (roll-Query z)) is (step_Query y)) (λ x y is. subst (λ z. Types-Select (roll-Select z)) is (step_Select y)) (λ x y is. subst (λ z. Types-Sum (roll-Sum z)) is (step_Sum y)) (λ x y is. subst (λ z. Types-Term (roll-Term z)) is (step_Term y))
