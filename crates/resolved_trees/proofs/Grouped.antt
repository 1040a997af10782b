-- Where types are right, each GROUP BY refers to the SELECT's own FROM, layer by layer.
use Rattle.std.proofs.Common.{◌≡◌, ℕ, Bool, true, false, not, ◌&&◌, List, [], ◌∷◌, ◌++◌, Option, Some, None, map, sym, subst, refl}
use Rattle.std.specs.Prelude.{option_map}
use Rattle.sql_tree.specs.declared.expr.Join.{Join, roll-Join, map-Join}
use Rattle.sql_tree.specs.declared.expr.Operand.{Operand, roll-Operand, map-Operand}
use Rattle.sql_tree.specs.declared.expr.SelectItem.{SelectItem, roll-SelectItem, map-SelectItem}
use Rattle.sql_tree.specs.declared.expr.SelectList.{SelectList, roll-SelectList, map-SelectList}
use Rattle.sql_tree.specs.declared.expr.Tail.{Tail, roll-Tail, map-Tail}
use Rattle.sql_tree.specs.declared.expr.Added.{Added, roll-Added, map-Added}
use Rattle.sql_tree.specs.declared.expr.Arm.{Arm, roll-Arm, map-Arm}
use Rattle.sql_tree.specs.declared.expr.Chain.{Chain, roll-Chain, map-Chain}
use Rattle.sql_tree.specs.declared.expr.Conjunction.{Conjunction, roll-Conjunction, map-Conjunction}
use Rattle.sql_tree.specs.declared.expr.Expr.{Expr, roll-Expr, map-Expr, ind-Expr}
use Rattle.sql_tree.specs.declared.expr.Factor.{Factor, roll-Factor, map-Factor}
use Rattle.sql_tree.specs.declared.expr.Further.{Further, roll-Further, map-Further}
use Rattle.sql_tree.specs.declared.expr.Multiplied.{Multiplied, roll-Multiplied, map-Multiplied}
use Rattle.sql_tree.specs.declared.expr.Negation.{Negation, roll-Negation, map-Negation}
use Rattle.sql_tree.specs.declared.expr.Predicate.{Predicate, roll-Predicate, map-Predicate}
use Rattle.sql_tree.specs.declared.expr.Query.{Query, roll-Query, map-Query, ind-Query}
use Rattle.sql_tree.specs.declared.expr.Select.{Select, roll-Select, map-Select}
use Rattle.sql_tree.specs.declared.expr.Sum.{Sum, roll-Sum, map-Sum}
use Rattle.sql_tree.specs.declared.expr.Term.{Term, roll-Term, map-Term}
use Rattle.sql_tree.specs.declared.expr.Join.TheOpen.{Join-F, Operand-F, SelectItem-F, SelectList-F, Tail-F, Added-F, Arm-F, Chain-F, Conjunction-F, Expr-F, Factor-F, Further-F, Multiplied-F, Negation-F, Predicate-F, Query-F, Select-F, Sum-F, Term-F}
use Rattle.sql_tree.specs.declared.expr.Comparison.{Comparison}
use Rattle.sql_tree.specs.declared.expr.Aggregate.{Aggregate}
use Rattle.sql_tree.specs.declared.expr.Additive.{Additive}
use Rattle.sql_tree.specs.declared.expr.Multiplicative.{Multiplicative}
use Rattle.sql_tree.specs.declared.expr.SetOperator.{SetOperator}
use Rattle.sql_names.specs.declared.sort.SqlType.{SqlType}
use Rattle.sql_names.specs.declared.sort.Special.{Special}
use Rattle.sql_names.specs.declared.column.Reference.{Reference}
use Rattle.sql_names.specs.declared.column.ObjectName.{ObjectName}
use Rattle.sql_names.specs.declared.column.TableReference.{TableReference}
use Rattle.sql_names.specs.NameBytes.{NameBytes}
use Rattle.sql_names.specs.declared.column.Reference.TheVariants as references
use Rattle.query_types.specs.declared.aggregates.Grouping.{Grouping}
use Rattle.query_types.specs.Aggregates.{nothing, both, join_all, perhaps, is_own, all_own, settled}
use Rattle.query_types.specs.Grouping as grouping
use Rattle.cat_items.specs.Pieces.{Pieces, of_group, all_pieces, some_pieces, optional_pieces, table_pieces, expr_pieces, query_pieces}
use Rattle.resolved_trees.specs.TreePieces.{join_pieces, operand_pieces, select_item_pieces, select_list_pieces, tail_pieces, added_pieces, arm_pieces, chain_pieces, conjunction_pieces, factor_pieces, further_pieces, multiplied_pieces, negation_pieces, predicate_pieces, select_pieces, sum_pieces, term_pieces}
use Rattle.resolved_trees.specs.Named.{IsGrouped}
use Rattle.resolved_trees.proofs.Everies.{Every, every_append, gather, firsts}
use Rattle.resolved_trees.proofs.GroupEquations.{grouping_Join_Inner, grouping_Join_Cross, grouping_Operand_Literal, grouping_Operand_Number, grouping_Operand_True, grouping_Operand_False, grouping_Operand_Special, grouping_Operand_Value, grouping_Operand_Reference, grouping_Operand_Call, grouping_Operand_CountAll, grouping_Operand_Aggregate, grouping_Operand_Case, grouping_Operand_Cast, grouping_Operand_Exists, grouping_Operand_Subquery, grouping_Operand_Parenthesized, grouping_SelectItem_Expr, grouping_SelectItem_QualifiedStar, grouping_SelectList_Star, grouping_SelectList_Listed, grouping_Tail_Compare, grouping_Tail_IsNull, grouping_Tail_Between, grouping_Tail_InQuery, grouping_Tail_InList, grouping_Tail_Like, grouping_Added, grouping_Arm, grouping_Chain, grouping_Conjunction, grouping_Expr, grouping_Factor, grouping_Further, grouping_Multiplied, grouping_Negation, grouping_Predicate, grouping_Query, grouping_Select, grouping_Sum, grouping_Term}
use Rattle.resolved_trees.proofs.PieceEquations.{pieces_Join_Inner, pieces_Join_Cross, pieces_Operand_Literal, pieces_Operand_Number, pieces_Operand_True, pieces_Operand_False, pieces_Operand_Special, pieces_Operand_Value, pieces_Operand_Reference, pieces_Operand_Call, pieces_Operand_CountAll, pieces_Operand_Aggregate, pieces_Operand_Case, pieces_Operand_Cast, pieces_Operand_Exists, pieces_Operand_Subquery, pieces_Operand_Parenthesized, pieces_SelectItem_Expr, pieces_SelectItem_QualifiedStar, pieces_SelectList_Star, pieces_SelectList_Listed, pieces_Tail_Compare, pieces_Tail_IsNull, pieces_Tail_Between, pieces_Tail_InQuery, pieces_Tail_InList, pieces_Tail_Like, pieces_Added, pieces_Arm, pieces_Chain, pieces_Conjunction, pieces_Expr, pieces_Factor, pieces_Further, pieces_Multiplied, pieces_Negation, pieces_Predicate, pieces_Query, pieces_Select, pieces_Sum, pieces_Term}

and_left : (a b : Bool) → (a && b) ≡ true → a ≡ true
and_left true b e = refl
and_left false b e = e

and_right : (a b : Bool) → (a && b) ≡ true → b ≡ true
and_right true b e = e
and_right false b e = absurd (let odd : false ≡ true = e in cc)

abbrev pub Grouped : {X : Type 0} → (X → Pieces) → (X → Grouping) → X → Type 0
Grouped pieces group x = (group x).right ≡ true → Every IsGrouped (pieces x)

abbrev Optional : {X : Type 0} → (X → Type 0) → Option X → Type 0
Optional P None = Unit {0}
Optional P (Some x) = P x

join_right : (before : Grouping) (gs : List Grouping) → (join_all before gs).right ≡ true → (before.right ≡ true) × Every (λ (g : Grouping). g.right ≡ true) gs
join_right before [] e = (e, tt)
join_right before (g ∷ gs) e = let rest = join_right (both before g) gs e in (and_left before.right g.right rest.0, (and_right before.right g.right rest.0, rest.1))

module _ {X : Type 0} (pieces : X → Pieces) (group : X → Grouping) where
  each_grouped : (xs : List X) → Every (Grouped pieces group) xs → Every (λ (g : Grouping). g.right ≡ true) (map group xs) → Every (λ x. Every IsGrouped (pieces x)) xs
  each_grouped [] h r = tt
  each_grouped (x ∷ xs) h r = (h.0 r.0, each_grouped xs h.1 r.1)

  all_grouped_pieces : (xs : List X) → Every (Grouped pieces group) xs → (join_all nothing (map group xs)).right ≡ true → Every IsGrouped (all_pieces (map pieces xs))
  all_grouped_pieces xs h r = gather IsGrouped pieces xs (each_grouped xs h (join_right nothing (map group xs) r).1)

  some_grouped : (xs : List X) → Every (Grouped pieces group) xs → (join_all nothing (map group xs)).right ≡ true → Every IsGrouped (some_pieces (map pieces xs))
  some_grouped xs h r = (tt, all_grouped_pieces xs h r)

  perhaps_grouped : (o : Option X) → Optional (Grouped pieces group) o → (perhaps (option_map group o)).right ≡ true → Every IsGrouped (optional_pieces (option_map pieces o))
  perhaps_grouped None h r = tt
  perhaps_grouped (Some x) h r = h r

own_group : (r : Reference) → is_own r ≡ true → IsGrouped (of_group r)
own_group (references.Cell up at q c) e = tt
own_group (references.Own t c) e = absurd (let odd : false ≡ true = e in cc)
own_group (references.Param c) e = absurd (let odd : false ≡ true = e in cc)
own_group (references.Unqualified c) e = absurd (let odd : false ≡ true = e in cc)
own_group (references.Qualified q c) e = absurd (let odd : false ≡ true = e in cc)

own_groups : (gs : List Reference) → all_own gs ≡ true → Every IsGrouped (map of_group gs)
own_groups [] e = tt
own_groups (g ∷ gs) e = (own_group g (and_left (is_own g) (all_own gs) e), own_groups gs (and_right (is_own g) (all_own gs) e))

record Parts (a b c : Grouping) (gs : List Reference) : Type 0 where
  pub from : a.right ≡ true
  pub list : b.right ≡ true
  pub filter : c.right ≡ true
  pub groups : all_own gs ≡ true

settled_parts : (from list filter : Grouping) (groups : List Reference) → (settled from list filter groups).right ≡ true → Parts from list filter groups
settled_parts from list filter groups e =
    let a = and_left _ _ e in
    let b = and_left _ _ a in
    let c = and_left _ _ b in
    let d = and_left _ _ c in
    let f = and_left _ _ d in record {
      from = and_left from.right list.right f;
      list = and_right from.right list.right f;
      filter = and_right _ _ d;
      groups = and_right _ _ a;
    }

abbrev pub Groups-Join : Join → Type 0
Groups-Join x = Grouped join_pieces grouping.join x

abbrev pub Groups-Operand : Operand → Type 0
Groups-Operand x = Grouped operand_pieces grouping.operand x

abbrev pub Groups-SelectItem : SelectItem → Type 0
Groups-SelectItem x = Grouped select_item_pieces grouping.select_item x

abbrev pub Groups-SelectList : SelectList → Type 0
Groups-SelectList x = Grouped select_list_pieces grouping.select_list x

abbrev pub Groups-Tail : Tail → Type 0
Groups-Tail x = Grouped tail_pieces grouping.tail x

abbrev pub Groups-Added : Added → Type 0
Groups-Added x = Grouped added_pieces grouping.added x

abbrev pub Groups-Arm : Arm → Type 0
Groups-Arm x = Grouped arm_pieces grouping.arm x

abbrev pub Groups-Chain : Chain → Type 0
Groups-Chain x = Grouped chain_pieces grouping.chain x

abbrev pub Groups-Conjunction : Conjunction → Type 0
Groups-Conjunction x = Grouped conjunction_pieces grouping.conjunction x

abbrev pub Groups-Expr : Expr → Type 0
Groups-Expr x = Grouped expr_pieces grouping.expr x

abbrev pub Groups-Factor : Factor → Type 0
Groups-Factor x = Grouped factor_pieces grouping.factor x

abbrev pub Groups-Further : Further → Type 0
Groups-Further x = Grouped further_pieces grouping.further x

abbrev pub Groups-Multiplied : Multiplied → Type 0
Groups-Multiplied x = Grouped multiplied_pieces grouping.multiplied x

abbrev pub Groups-Negation : Negation → Type 0
Groups-Negation x = Grouped negation_pieces grouping.negation x

abbrev pub Groups-Predicate : Predicate → Type 0
Groups-Predicate x = Grouped predicate_pieces grouping.predicate x

abbrev pub Groups-Query : Query → Type 0
Groups-Query x = Grouped query_pieces grouping.query x

abbrev pub Groups-Select : Select → Type 0
Groups-Select x = Grouped select_pieces grouping.select x

abbrev pub Groups-Sum : Sum → Type 0
Groups-Sum x = Grouped sum_pieces grouping.sum x

abbrev pub Groups-Term : Term → Type 0
Groups-Term x = Grouped term_pieces grouping.term x

group_Join_Inner : (table' : TableReference) (on' : Expr) → Groups-Expr on' → Groups-Join (roll-Join (Join-F.Inner table' on'))
group_Join_Inner table' on' h-on right =
    let r = subst (λ z. z.right ≡ true) (grouping_Join_Inner table' on') right in
    subst (Every IsGrouped) (sym (pieces_Join_Inner table' on')) (every_append IsGrouped (table_pieces table') (expr_pieces on') (tt, (tt, tt)) (h-on (r)))

group_Join_Cross : (table' : TableReference) → Groups-Join (roll-Join (Join-F.Cross table'))
group_Join_Cross table' right =
    let r = subst (λ z. z.right ≡ true) (grouping_Join_Cross table') right in
    subst (Every IsGrouped) (sym (pieces_Join_Cross table')) (tt, (tt, tt))

group_Operand_Literal : (text' : List ℕ) → Groups-Operand (roll-Operand (Operand-F.Literal text'))
group_Operand_Literal text' right =
    let r = subst (λ z. z.right ≡ true) (grouping_Operand_Literal text') right in
    subst (Every IsGrouped) (sym (pieces_Operand_Literal text')) (tt, tt)

group_Operand_Number : (text' : List ℕ) → Groups-Operand (roll-Operand (Operand-F.Number text'))
group_Operand_Number text' right =
    let r = subst (λ z. z.right ≡ true) (grouping_Operand_Number text') right in
    subst (Every IsGrouped) (sym (pieces_Operand_Number text')) (tt, tt)

group_Operand_True : Groups-Operand (roll-Operand Operand-F.True)
group_Operand_True right =
    let r = subst (λ z. z.right ≡ true) (grouping_Operand_True) right in
    subst (Every IsGrouped) (sym (pieces_Operand_True)) tt

group_Operand_False : Groups-Operand (roll-Operand Operand-F.False)
group_Operand_False right =
    let r = subst (λ z. z.right ≡ true) (grouping_Operand_False) right in
    subst (Every IsGrouped) (sym (pieces_Operand_False)) tt

group_Operand_Special : (special' : Special) → Groups-Operand (roll-Operand (Operand-F.Special special'))
group_Operand_Special special' right =
    let r = subst (λ z. z.right ≡ true) (grouping_Operand_Special special') right in
    subst (Every IsGrouped) (sym (pieces_Operand_Special special')) tt

group_Operand_Value : Groups-Operand (roll-Operand Operand-F.Value)
group_Operand_Value right =
    let r = subst (λ z. z.right ≡ true) (grouping_Operand_Value) right in
    subst (Every IsGrouped) (sym (pieces_Operand_Value)) tt

group_Operand_Reference : (r' : Reference) → Groups-Operand (roll-Operand (Operand-F.Reference r'))
group_Operand_Reference r' right =
    let r = subst (λ z. z.right ≡ true) (grouping_Operand_Reference r') right in
    subst (Every IsGrouped) (sym (pieces_Operand_Reference r')) (tt, tt)

group_Operand_Call : (f' : ObjectName) (es' : List Expr) → Every Groups-Expr es' → Groups-Operand (roll-Operand (Operand-F.Call f' es'))
group_Operand_Call f' es' h-es right =
    let r = subst (λ z. z.right ≡ true) (grouping_Operand_Call f' es') right in
    subst (Every IsGrouped) (sym (pieces_Operand_Call f' es')) (tt, (all_grouped_pieces expr_pieces grouping.expr es' h-es (r)))

group_Operand_CountAll : Groups-Operand (roll-Operand Operand-F.CountAll)
group_Operand_CountAll right =
    let r = subst (λ z. z.right ≡ true) (grouping_Operand_CountAll) right in
    subst (Every IsGrouped) (sym (pieces_Operand_CountAll)) tt

group_Operand_Aggregate : (by' : Aggregate) (e' : Expr) → Groups-Expr e' → Groups-Operand (roll-Operand (Operand-F.Aggregate by' e'))
group_Operand_Aggregate by' e' h-e right =
    let r = subst (λ z. z.right ≡ true) (grouping_Operand_Aggregate by' e') right in
    subst (Every IsGrouped) (sym (pieces_Operand_Aggregate by' e')) (h-e (and_left (grouping.expr e').right (not (grouping.expr e').some) (r)))

group_Operand_Case : (arms' : List Arm) (e' : Option Expr) → Every Groups-Arm arms' → Optional Groups-Expr e' → Groups-Operand (roll-Operand (Operand-F.Case arms' e'))
group_Operand_Case arms' e' h-arms h-e right =
    let r = subst (λ z. z.right ≡ true) (grouping_Operand_Case arms' e') right in
    subst (Every IsGrouped) (sym (pieces_Operand_Case arms' e')) (every_append IsGrouped (some_pieces (map arm_pieces arms')) (optional_pieces (option_map expr_pieces e')) (some_grouped arm_pieces grouping.arm arms' h-arms (and_left (join_all nothing (map grouping.arm arms')).right (perhaps (option_map grouping.expr e')).right r)) (perhaps_grouped expr_pieces grouping.expr e' h-e (and_right (join_all nothing (map grouping.arm arms')).right (perhaps (option_map grouping.expr e')).right r)))

group_Operand_Cast : (e' : Option Expr) (sort' : SqlType) → Optional Groups-Expr e' → Groups-Operand (roll-Operand (Operand-F.Cast e' sort'))
group_Operand_Cast e' sort' h-e right =
    let r = subst (λ z. z.right ≡ true) (grouping_Operand_Cast e' sort') right in
    subst (Every IsGrouped) (sym (pieces_Operand_Cast e' sort')) (tt, (perhaps_grouped expr_pieces grouping.expr e' h-e (r)))

group_Operand_Exists : (q' : Query) → Groups-Query q' → Groups-Operand (roll-Operand (Operand-F.Exists q'))
group_Operand_Exists q' h-q right =
    let r = subst (λ z. z.right ≡ true) (grouping_Operand_Exists q') right in
    subst (Every IsGrouped) (sym (pieces_Operand_Exists q')) (tt, (h-q (r)))

group_Operand_Subquery : (q' : Query) → Groups-Query q' → Groups-Operand (roll-Operand (Operand-F.Subquery q'))
group_Operand_Subquery q' h-q right =
    let r = subst (λ z. z.right ≡ true) (grouping_Operand_Subquery q') right in
    subst (Every IsGrouped) (sym (pieces_Operand_Subquery q')) (tt, (h-q (r)))

group_Operand_Parenthesized : (e' : Expr) → Groups-Expr e' → Groups-Operand (roll-Operand (Operand-F.Parenthesized e'))
group_Operand_Parenthesized e' h-e right =
    let r = subst (λ z. z.right ≡ true) (grouping_Operand_Parenthesized e') right in
    subst (Every IsGrouped) (sym (pieces_Operand_Parenthesized e')) (h-e (r))

group_SelectItem_Expr : (e' : Expr) (name' : Option NameBytes) → Groups-Expr e' → Groups-SelectItem (roll-SelectItem (SelectItem-F.Expr e' name'))
group_SelectItem_Expr e' name' h-e right =
    let r = subst (λ z. z.right ≡ true) (grouping_SelectItem_Expr e' name') right in
    subst (Every IsGrouped) (sym (pieces_SelectItem_Expr e' name')) (tt, (h-e (r)))

group_SelectItem_QualifiedStar : (q' : NameBytes) → Groups-SelectItem (roll-SelectItem (SelectItem-F.QualifiedStar q'))
group_SelectItem_QualifiedStar q' right =
    let r = subst (λ z. z.right ≡ true) (grouping_SelectItem_QualifiedStar q') right in
    subst (Every IsGrouped) (sym (pieces_SelectItem_QualifiedStar q')) (tt, tt)

group_SelectList_Star : Groups-SelectList (roll-SelectList SelectList-F.Star)
group_SelectList_Star right =
    let r = subst (λ z. z.right ≡ true) (grouping_SelectList_Star) right in
    subst (Every IsGrouped) (sym (pieces_SelectList_Star)) (tt, tt)

group_SelectList_Listed : (is' : List SelectItem) → Every Groups-SelectItem is' → Groups-SelectList (roll-SelectList (SelectList-F.Listed is'))
group_SelectList_Listed is' h-is right =
    let r = subst (λ z. z.right ≡ true) (grouping_SelectList_Listed is') right in
    subst (Every IsGrouped) (sym (pieces_SelectList_Listed is')) (some_grouped select_item_pieces grouping.select_item is' h-is (r))

group_Tail_Compare : (by' : Comparison) (x' : Sum) → Groups-Sum x' → Groups-Tail (roll-Tail (Tail-F.Compare by' x'))
group_Tail_Compare by' x' h-x right =
    let r = subst (λ z. z.right ≡ true) (grouping_Tail_Compare by' x') right in
    subst (Every IsGrouped) (sym (pieces_Tail_Compare by' x')) (h-x (r))

group_Tail_IsNull : (negated' : Bool) → Groups-Tail (roll-Tail (Tail-F.IsNull negated'))
group_Tail_IsNull negated' right =
    let r = subst (λ z. z.right ≡ true) (grouping_Tail_IsNull negated') right in
    subst (Every IsGrouped) (sym (pieces_Tail_IsNull negated')) tt

group_Tail_Between : (negated' : Bool) (x' : Sum) (y' : Sum) → Groups-Sum x' → Groups-Sum y' → Groups-Tail (roll-Tail (Tail-F.Between negated' x' y'))
group_Tail_Between negated' x' y' h-x h-y right =
    let r = subst (λ z. z.right ≡ true) (grouping_Tail_Between negated' x' y') right in
    subst (Every IsGrouped) (sym (pieces_Tail_Between negated' x' y')) (every_append IsGrouped (sum_pieces x') (sum_pieces y') (h-x (and_left (grouping.sum x').right (grouping.sum y').right r)) (h-y (and_right (grouping.sum x').right (grouping.sum y').right r)))

group_Tail_InQuery : (negated' : Bool) (q' : Query) → Groups-Query q' → Groups-Tail (roll-Tail (Tail-F.InQuery negated' q'))
group_Tail_InQuery negated' q' h-q right =
    let r = subst (λ z. z.right ≡ true) (grouping_Tail_InQuery negated' q') right in
    subst (Every IsGrouped) (sym (pieces_Tail_InQuery negated' q')) (tt, (h-q (r)))

group_Tail_InList : (negated' : Bool) (es' : List Expr) → Every Groups-Expr es' → Groups-Tail (roll-Tail (Tail-F.InList negated' es'))
group_Tail_InList negated' es' h-es right =
    let r = subst (λ z. z.right ≡ true) (grouping_Tail_InList negated' es') right in
    subst (Every IsGrouped) (sym (pieces_Tail_InList negated' es')) (some_grouped expr_pieces grouping.expr es' h-es (r))

group_Tail_Like : (negated' : Bool) (x' : Sum) → Groups-Sum x' → Groups-Tail (roll-Tail (Tail-F.Like negated' x'))
group_Tail_Like negated' x' h-x right =
    let r = subst (λ z. z.right ≡ true) (grouping_Tail_Like negated' x') right in
    subst (Every IsGrouped) (sym (pieces_Tail_Like negated' x')) (h-x (r))

group_Added : (by' : Additive) (term' : Term) → Groups-Term term' → Groups-Added (roll-Added (record { by = by'; term = term' }))
group_Added by' term' h-term right =
    let r = subst (λ z. z.right ≡ true) (grouping_Added by' term') right in
    subst (Every IsGrouped) (sym (pieces_Added by' term')) (h-term (r))

group_Arm : (condition' : Expr) (value' : Expr) → Groups-Expr condition' → Groups-Expr value' → Groups-Arm (roll-Arm (record { condition = condition'; value = value' }))
group_Arm condition' value' h-condition h-value right =
    let r = subst (λ z. z.right ≡ true) (grouping_Arm condition' value') right in
    subst (Every IsGrouped) (sym (pieces_Arm condition' value')) (every_append IsGrouped (expr_pieces condition') (expr_pieces value') (h-condition (and_left (grouping.expr condition').right (grouping.expr value').right r)) (h-value (and_right (grouping.expr condition').right (grouping.expr value').right r)))

group_Chain : (first' : TableReference) (joins' : List Join) → Every Groups-Join joins' → Groups-Chain (roll-Chain (record { first = first'; joins = joins' }))
group_Chain first' joins' h-joins right =
    let r = subst (λ z. z.right ≡ true) (grouping_Chain first' joins') right in
    subst (Every IsGrouped) (sym (pieces_Chain first' joins')) (every_append IsGrouped (table_pieces first') (all_pieces (map join_pieces joins')) (tt, (tt, tt)) (all_grouped_pieces join_pieces grouping.join joins' h-joins (r)))

group_Conjunction : (every' : List Negation) → Every Groups-Negation every' → Groups-Conjunction (roll-Conjunction (record { every = every' }))
group_Conjunction every' h-every right =
    let r = subst (λ z. z.right ≡ true) (grouping_Conjunction every') right in
    subst (Every IsGrouped) (sym (pieces_Conjunction every')) (some_grouped negation_pieces grouping.negation every' h-every (r))

group_Expr : (any' : List Conjunction) → Every Groups-Conjunction any' → Groups-Expr (roll-Expr (record { any = any' }))
group_Expr any' h-any right =
    let r = subst (λ z. z.right ≡ true) (grouping_Expr any') right in
    subst (Every IsGrouped) (sym (pieces_Expr any')) (some_grouped conjunction_pieces grouping.conjunction any' h-any (r))

group_Factor : (minus' : Bool) (operand' : Operand) → Groups-Operand operand' → Groups-Factor (roll-Factor (record { minus = minus'; operand = operand' }))
group_Factor minus' operand' h-operand right =
    let r = subst (λ z. z.right ≡ true) (grouping_Factor minus' operand') right in
    subst (Every IsGrouped) (sym (pieces_Factor minus' operand')) (h-operand (r))

group_Further : (by' : SetOperator) (all' : Bool) (select' : Select) → Groups-Select select' → Groups-Further (roll-Further (record { by = by'; all = all'; select = select' }))
group_Further by' all' select' h-select right =
    let r = subst (λ z. z.right ≡ true) (grouping_Further by' all' select') right in
    subst (Every IsGrouped) (sym (pieces_Further by' all' select')) (h-select (r))

group_Multiplied : (by' : Multiplicative) (factor' : Factor) → Groups-Factor factor' → Groups-Multiplied (roll-Multiplied (record { by = by'; factor = factor' }))
group_Multiplied by' factor' h-factor right =
    let r = subst (λ z. z.right ≡ true) (grouping_Multiplied by' factor') right in
    subst (Every IsGrouped) (sym (pieces_Multiplied by' factor')) (h-factor (r))

group_Negation : (negated' : Bool) (predicate' : Predicate) → Groups-Predicate predicate' → Groups-Negation (roll-Negation (record { negated = negated'; predicate = predicate' }))
group_Negation negated' predicate' h-predicate right =
    let r = subst (λ z. z.right ≡ true) (grouping_Negation negated' predicate') right in
    subst (Every IsGrouped) (sym (pieces_Negation negated' predicate')) (h-predicate (r))

group_Predicate : (tested' : Sum) (tail' : Option Tail) → Groups-Sum tested' → Optional Groups-Tail tail' → Groups-Predicate (roll-Predicate (record { tested = tested'; tail = tail' }))
group_Predicate tested' tail' h-tested h-tail right =
    let r = subst (λ z. z.right ≡ true) (grouping_Predicate tested' tail') right in
    subst (Every IsGrouped) (sym (pieces_Predicate tested' tail')) (every_append IsGrouped (sum_pieces tested') (optional_pieces (option_map tail_pieces tail')) (h-tested (and_left (grouping.sum tested').right (perhaps (option_map grouping.tail tail')).right r)) (perhaps_grouped tail_pieces grouping.tail tail' h-tail (and_right (grouping.sum tested').right (perhaps (option_map grouping.tail tail')).right r)))

group_Query : (first' : Select) (others' : List Further) → Groups-Select first' → Every Groups-Further others' → Groups-Query (roll-Query (record { first = first'; others = others' }))
group_Query first' others' h-first h-others right =
    let r = subst (λ z. z.right ≡ true) (grouping_Query first' others') right in
    subst (Every IsGrouped) (sym (pieces_Query first' others')) (every_append IsGrouped (select_pieces first') (all_pieces (map further_pieces others')) (h-first (and_left (grouping.select first').right (join_all nothing (map grouping.further others')).right r)) (all_grouped_pieces further_pieces grouping.further others' h-others (and_right (grouping.select first').right (join_all nothing (map grouping.further others')).right r)))

group_Sum : (first' : Term) (others' : List Added) → Groups-Term first' → Every Groups-Added others' → Groups-Sum (roll-Sum (record { first = first'; others = others' }))
group_Sum first' others' h-first h-others right =
    let r = subst (λ z. z.right ≡ true) (grouping_Sum first' others') right in
    subst (Every IsGrouped) (sym (pieces_Sum first' others')) (every_append IsGrouped (term_pieces first') (all_pieces (map added_pieces others')) (h-first (and_left (grouping.term first').right (join_all nothing (map grouping.added others')).right r)) (all_grouped_pieces added_pieces grouping.added others' h-others (and_right (grouping.term first').right (join_all nothing (map grouping.added others')).right r)))

group_Term : (first' : Factor) (others' : List Multiplied) → Groups-Factor first' → Every Groups-Multiplied others' → Groups-Term (roll-Term (record { first = first'; others = others' }))
group_Term first' others' h-first h-others right =
    let r = subst (λ z. z.right ≡ true) (grouping_Term first' others') right in
    subst (Every IsGrouped) (sym (pieces_Term first' others')) (every_append IsGrouped (factor_pieces first') (all_pieces (map multiplied_pieces others')) (h-first (and_left (grouping.factor first').right (join_all nothing (map grouping.multiplied others')).right r)) (all_grouped_pieces multiplied_pieces grouping.multiplied others' h-others (and_right (grouping.factor first').right (join_all nothing (map grouping.multiplied others')).right r)))

group_Select : (distinct' : Bool) (list' : SelectList) (from' : List Chain) (filter' : Option Expr) (group_by' : List Reference) → Groups-SelectList list' → Every Groups-Chain from' → Optional Groups-Expr filter' → Groups-Select (roll-Select (record { distinct = distinct'; list = list'; from = from'; filter = filter'; group_by = group_by' }))
group_Select distinct' list' from' filter' group_by' h-list h-from h-filter right =
    let r = subst (λ z. z.right ≡ true) (grouping_Select distinct' list' from' filter' group_by') right in
    let from = join_all nothing (map grouping.chain from') in
    let list = grouping.select_list list' in
    let filter = perhaps (option_map grouping.expr filter') in
    let parts = settled_parts from list filter group_by' r in
    subst (Every IsGrouped) (sym (pieces_Select distinct' list' from' filter' group_by'))
    (every_append IsGrouped ((select_list_pieces list' ++ some_pieces (map chain_pieces from')) ++ optional_pieces (option_map expr_pieces filter')) (map of_group group_by')
    (every_append IsGrouped (select_list_pieces list' ++ some_pieces (map chain_pieces from')) (optional_pieces (option_map expr_pieces filter'))
    (every_append IsGrouped (select_list_pieces list') (some_pieces (map chain_pieces from')) (h-list parts.list) (some_grouped chain_pieces grouping.chain from' h-from parts.from))
    (perhaps_grouped expr_pieces grouping.expr filter' h-filter parts.filter))
    (own_groups group_by' parts.groups))

abbrev Of : (Type 0 → Type 0 → Type 0 → Type 0 → Type 0 → Type 0 → Type 0 → Type 0 → Type 0 → Type 0 → Type 0 → Type 0 → Type 0 → Type 0 → Type 0 → Type 0 → Type 0 → Type 0 → Type 0 → Type 0) → Type 0
Of L = L ((x : Join) × Groups-Join x) ((x : Operand) × Groups-Operand x) ((x : SelectItem) × Groups-SelectItem x) ((x : SelectList) × Groups-SelectList x) ((x : Tail) × Groups-Tail x) ((x : Added) × Groups-Added x) ((x : Arm) × Groups-Arm x) ((x : Chain) × Groups-Chain x) ((x : Conjunction) × Groups-Conjunction x) ((x : Expr) × Groups-Expr x) ((x : Factor) × Groups-Factor x) ((x : Further) × Groups-Further x) ((x : Multiplied) × Groups-Multiplied x) ((x : Negation) × Groups-Negation x) ((x : Predicate) × Groups-Predicate x) ((x : Query) × Groups-Query x) ((x : Select) × Groups-Select x) ((x : Sum) × Groups-Sum x) ((x : Term) × Groups-Term x)

step_Join : (y : Of Join-F) → Groups-Join (roll-Join (map-Join ((x : Join) × Groups-Join x) ((x : Operand) × Groups-Operand x) ((x : SelectItem) × Groups-SelectItem x) ((x : SelectList) × Groups-SelectList x) ((x : Tail) × Groups-Tail x) ((x : Added) × Groups-Added x) ((x : Arm) × Groups-Arm x) ((x : Chain) × Groups-Chain x) ((x : Conjunction) × Groups-Conjunction x) ((x : Expr) × Groups-Expr x) ((x : Factor) × Groups-Factor x) ((x : Further) × Groups-Further x) ((x : Multiplied) × Groups-Multiplied x) ((x : Negation) × Groups-Negation x) ((x : Predicate) × Groups-Predicate x) ((x : Query) × Groups-Query x) ((x : Select) × Groups-Select x) ((x : Sum) × Groups-Sum x) ((x : Term) × Groups-Term x) Join Operand SelectItem SelectList Tail Added Arm Chain Conjunction Expr Factor Further Multiplied Negation Predicate Query Select Sum Term (λ e. e.0) (λ e. e.0) (λ e. e.0) (λ e. e.0) (λ e. e.0) (λ e. e.0) (λ e. e.0) (λ e. e.0) (λ e. e.0) (λ e. e.0) (λ e. e.0) (λ e. e.0) (λ e. e.0) (λ e. e.0) (λ e. e.0) (λ e. e.0) (λ e. e.0) (λ e. e.0) (λ e. e.0) y))
step_Join (Join-F.Inner table' on') = group_Join_Inner table' on'.0 on'.1
step_Join (Join-F.Cross table') = group_Join_Cross table'

step_Operand : (y : Of Operand-F) → Groups-Operand (roll-Operand (map-Operand ((x : Join) × Groups-Join x) ((x : Operand) × Groups-Operand x) ((x : SelectItem) × Groups-SelectItem x) ((x : SelectList) × Groups-SelectList x) ((x : Tail) × Groups-Tail x) ((x : Added) × Groups-Added x) ((x : Arm) × Groups-Arm x) ((x : Chain) × Groups-Chain x) ((x : Conjunction) × Groups-Conjunction x) ((x : Expr) × Groups-Expr x) ((x : Factor) × Groups-Factor x) ((x : Further) × Groups-Further x) ((x : Multiplied) × Groups-Multiplied x) ((x : Negation) × Groups-Negation x) ((x : Predicate) × Groups-Predicate x) ((x : Query) × Groups-Query x) ((x : Select) × Groups-Select x) ((x : Sum) × Groups-Sum x) ((x : Term) × Groups-Term x) Join Operand SelectItem SelectList Tail Added Arm Chain Conjunction Expr Factor Further Multiplied Negation Predicate Query Select Sum Term (λ e. e.0) (λ e. e.0) (λ e. e.0) (λ e. e.0) (λ e. e.0) (λ e. e.0) (λ e. e.0) (λ e. e.0) (λ e. e.0) (λ e. e.0) (λ e. e.0) (λ e. e.0) (λ e. e.0) (λ e. e.0) (λ e. e.0) (λ e. e.0) (λ e. e.0) (λ e. e.0) (λ e. e.0) y))
step_Operand (Operand-F.Literal text') = group_Operand_Literal text'
step_Operand (Operand-F.Number text') = group_Operand_Number text'
step_Operand Operand-F.True = group_Operand_True
step_Operand Operand-F.False = group_Operand_False
step_Operand (Operand-F.Special special') = group_Operand_Special special'
step_Operand Operand-F.Value = group_Operand_Value
step_Operand (Operand-F.Reference r') = group_Operand_Reference r'
step_Operand (Operand-F.Call f' es') = group_Operand_Call f' (map (λ e. e.0) es') (firsts Groups-Expr es')
step_Operand Operand-F.CountAll = group_Operand_CountAll
step_Operand (Operand-F.Aggregate by' e') = group_Operand_Aggregate by' e'.0 e'.1
step_Operand (Operand-F.Case arms' None) = group_Operand_Case (map (λ e. e.0) arms') None (firsts Groups-Arm arms') tt
step_Operand (Operand-F.Case arms' (Some o)) = group_Operand_Case (map (λ e. e.0) arms') (Some o.0) (firsts Groups-Arm arms') o.1
step_Operand (Operand-F.Cast None sort') = group_Operand_Cast None sort' tt
step_Operand (Operand-F.Cast (Some o) sort') = group_Operand_Cast (Some o.0) sort' o.1
step_Operand (Operand-F.Exists q') = group_Operand_Exists q'.0 q'.1
step_Operand (Operand-F.Subquery q') = group_Operand_Subquery q'.0 q'.1
step_Operand (Operand-F.Parenthesized e') = group_Operand_Parenthesized e'.0 e'.1

step_SelectItem : (y : Of SelectItem-F) → Groups-SelectItem (roll-SelectItem (map-SelectItem ((x : Join) × Groups-Join x) ((x : Operand) × Groups-Operand x) ((x : SelectItem) × Groups-SelectItem x) ((x : SelectList) × Groups-SelectList x) ((x : Tail) × Groups-Tail x) ((x : Added) × Groups-Added x) ((x : Arm) × Groups-Arm x) ((x : Chain) × Groups-Chain x) ((x : Conjunction) × Groups-Conjunction x) ((x : Expr) × Groups-Expr x) ((x : Factor) × Groups-Factor x) ((x : Further) × Groups-Further x) ((x : Multiplied) × Groups-Multiplied x) ((x : Negation) × Groups-Negation x) ((x : Predicate) × Groups-Predicate x) ((x : Query) × Groups-Query x) ((x : Select) × Groups-Select x) ((x : Sum) × Groups-Sum x) ((x : Term) × Groups-Term x) Join Operand SelectItem SelectList Tail Added Arm Chain Conjunction Expr Factor Further Multiplied Negation Predicate Query Select Sum Term (λ e. e.0) (λ e. e.0) (λ e. e.0) (λ e. e.0) (λ e. e.0) (λ e. e.0) (λ e. e.0) (λ e. e.0) (λ e. e.0) (λ e. e.0) (λ e. e.0) (λ e. e.0) (λ e. e.0) (λ e. e.0) (λ e. e.0) (λ e. e.0) (λ e. e.0) (λ e. e.0) (λ e. e.0) y))
step_SelectItem (SelectItem-F.Expr e' name') = group_SelectItem_Expr e'.0 name' e'.1
step_SelectItem (SelectItem-F.QualifiedStar q') = group_SelectItem_QualifiedStar q'

step_SelectList : (y : Of SelectList-F) → Groups-SelectList (roll-SelectList (map-SelectList ((x : Join) × Groups-Join x) ((x : Operand) × Groups-Operand x) ((x : SelectItem) × Groups-SelectItem x) ((x : SelectList) × Groups-SelectList x) ((x : Tail) × Groups-Tail x) ((x : Added) × Groups-Added x) ((x : Arm) × Groups-Arm x) ((x : Chain) × Groups-Chain x) ((x : Conjunction) × Groups-Conjunction x) ((x : Expr) × Groups-Expr x) ((x : Factor) × Groups-Factor x) ((x : Further) × Groups-Further x) ((x : Multiplied) × Groups-Multiplied x) ((x : Negation) × Groups-Negation x) ((x : Predicate) × Groups-Predicate x) ((x : Query) × Groups-Query x) ((x : Select) × Groups-Select x) ((x : Sum) × Groups-Sum x) ((x : Term) × Groups-Term x) Join Operand SelectItem SelectList Tail Added Arm Chain Conjunction Expr Factor Further Multiplied Negation Predicate Query Select Sum Term (λ e. e.0) (λ e. e.0) (λ e. e.0) (λ e. e.0) (λ e. e.0) (λ e. e.0) (λ e. e.0) (λ e. e.0) (λ e. e.0) (λ e. e.0) (λ e. e.0) (λ e. e.0) (λ e. e.0) (λ e. e.0) (λ e. e.0) (λ e. e.0) (λ e. e.0) (λ e. e.0) (λ e. e.0) y))
step_SelectList SelectList-F.Star = group_SelectList_Star
step_SelectList (SelectList-F.Listed is') = group_SelectList_Listed (map (λ e. e.0) is') (firsts Groups-SelectItem is')

step_Tail : (y : Of Tail-F) → Groups-Tail (roll-Tail (map-Tail ((x : Join) × Groups-Join x) ((x : Operand) × Groups-Operand x) ((x : SelectItem) × Groups-SelectItem x) ((x : SelectList) × Groups-SelectList x) ((x : Tail) × Groups-Tail x) ((x : Added) × Groups-Added x) ((x : Arm) × Groups-Arm x) ((x : Chain) × Groups-Chain x) ((x : Conjunction) × Groups-Conjunction x) ((x : Expr) × Groups-Expr x) ((x : Factor) × Groups-Factor x) ((x : Further) × Groups-Further x) ((x : Multiplied) × Groups-Multiplied x) ((x : Negation) × Groups-Negation x) ((x : Predicate) × Groups-Predicate x) ((x : Query) × Groups-Query x) ((x : Select) × Groups-Select x) ((x : Sum) × Groups-Sum x) ((x : Term) × Groups-Term x) Join Operand SelectItem SelectList Tail Added Arm Chain Conjunction Expr Factor Further Multiplied Negation Predicate Query Select Sum Term (λ e. e.0) (λ e. e.0) (λ e. e.0) (λ e. e.0) (λ e. e.0) (λ e. e.0) (λ e. e.0) (λ e. e.0) (λ e. e.0) (λ e. e.0) (λ e. e.0) (λ e. e.0) (λ e. e.0) (λ e. e.0) (λ e. e.0) (λ e. e.0) (λ e. e.0) (λ e. e.0) (λ e. e.0) y))
step_Tail (Tail-F.Compare by' x') = group_Tail_Compare by' x'.0 x'.1
step_Tail (Tail-F.IsNull negated') = group_Tail_IsNull negated'
step_Tail (Tail-F.Between negated' x' y') = group_Tail_Between negated' x'.0 y'.0 x'.1 y'.1
step_Tail (Tail-F.InQuery negated' q') = group_Tail_InQuery negated' q'.0 q'.1
step_Tail (Tail-F.InList negated' es') = group_Tail_InList negated' (map (λ e. e.0) es') (firsts Groups-Expr es')
step_Tail (Tail-F.Like negated' x') = group_Tail_Like negated' x'.0 x'.1

step_Added : (y : Of Added-F) → Groups-Added (roll-Added (map-Added ((x : Join) × Groups-Join x) ((x : Operand) × Groups-Operand x) ((x : SelectItem) × Groups-SelectItem x) ((x : SelectList) × Groups-SelectList x) ((x : Tail) × Groups-Tail x) ((x : Added) × Groups-Added x) ((x : Arm) × Groups-Arm x) ((x : Chain) × Groups-Chain x) ((x : Conjunction) × Groups-Conjunction x) ((x : Expr) × Groups-Expr x) ((x : Factor) × Groups-Factor x) ((x : Further) × Groups-Further x) ((x : Multiplied) × Groups-Multiplied x) ((x : Negation) × Groups-Negation x) ((x : Predicate) × Groups-Predicate x) ((x : Query) × Groups-Query x) ((x : Select) × Groups-Select x) ((x : Sum) × Groups-Sum x) ((x : Term) × Groups-Term x) Join Operand SelectItem SelectList Tail Added Arm Chain Conjunction Expr Factor Further Multiplied Negation Predicate Query Select Sum Term (λ e. e.0) (λ e. e.0) (λ e. e.0) (λ e. e.0) (λ e. e.0) (λ e. e.0) (λ e. e.0) (λ e. e.0) (λ e. e.0) (λ e. e.0) (λ e. e.0) (λ e. e.0) (λ e. e.0) (λ e. e.0) (λ e. e.0) (λ e. e.0) (λ e. e.0) (λ e. e.0) (λ e. e.0) y))
step_Added y = group_Added y.by y.term.0 y.term.1

step_Arm : (y : Of Arm-F) → Groups-Arm (roll-Arm (map-Arm ((x : Join) × Groups-Join x) ((x : Operand) × Groups-Operand x) ((x : SelectItem) × Groups-SelectItem x) ((x : SelectList) × Groups-SelectList x) ((x : Tail) × Groups-Tail x) ((x : Added) × Groups-Added x) ((x : Arm) × Groups-Arm x) ((x : Chain) × Groups-Chain x) ((x : Conjunction) × Groups-Conjunction x) ((x : Expr) × Groups-Expr x) ((x : Factor) × Groups-Factor x) ((x : Further) × Groups-Further x) ((x : Multiplied) × Groups-Multiplied x) ((x : Negation) × Groups-Negation x) ((x : Predicate) × Groups-Predicate x) ((x : Query) × Groups-Query x) ((x : Select) × Groups-Select x) ((x : Sum) × Groups-Sum x) ((x : Term) × Groups-Term x) Join Operand SelectItem SelectList Tail Added Arm Chain Conjunction Expr Factor Further Multiplied Negation Predicate Query Select Sum Term (λ e. e.0) (λ e. e.0) (λ e. e.0) (λ e. e.0) (λ e. e.0) (λ e. e.0) (λ e. e.0) (λ e. e.0) (λ e. e.0) (λ e. e.0) (λ e. e.0) (λ e. e.0) (λ e. e.0) (λ e. e.0) (λ e. e.0) (λ e. e.0) (λ e. e.0) (λ e. e.0) (λ e. e.0) y))
step_Arm y = group_Arm y.condition.0 y.value.0 y.condition.1 y.value.1

step_Chain : (y : Of Chain-F) → Groups-Chain (roll-Chain (map-Chain ((x : Join) × Groups-Join x) ((x : Operand) × Groups-Operand x) ((x : SelectItem) × Groups-SelectItem x) ((x : SelectList) × Groups-SelectList x) ((x : Tail) × Groups-Tail x) ((x : Added) × Groups-Added x) ((x : Arm) × Groups-Arm x) ((x : Chain) × Groups-Chain x) ((x : Conjunction) × Groups-Conjunction x) ((x : Expr) × Groups-Expr x) ((x : Factor) × Groups-Factor x) ((x : Further) × Groups-Further x) ((x : Multiplied) × Groups-Multiplied x) ((x : Negation) × Groups-Negation x) ((x : Predicate) × Groups-Predicate x) ((x : Query) × Groups-Query x) ((x : Select) × Groups-Select x) ((x : Sum) × Groups-Sum x) ((x : Term) × Groups-Term x) Join Operand SelectItem SelectList Tail Added Arm Chain Conjunction Expr Factor Further Multiplied Negation Predicate Query Select Sum Term (λ e. e.0) (λ e. e.0) (λ e. e.0) (λ e. e.0) (λ e. e.0) (λ e. e.0) (λ e. e.0) (λ e. e.0) (λ e. e.0) (λ e. e.0) (λ e. e.0) (λ e. e.0) (λ e. e.0) (λ e. e.0) (λ e. e.0) (λ e. e.0) (λ e. e.0) (λ e. e.0) (λ e. e.0) y))
step_Chain y = group_Chain y.first (map (λ e. e.0) y.joins) (firsts Groups-Join y.joins)

step_Conjunction : (y : Of Conjunction-F) → Groups-Conjunction (roll-Conjunction (map-Conjunction ((x : Join) × Groups-Join x) ((x : Operand) × Groups-Operand x) ((x : SelectItem) × Groups-SelectItem x) ((x : SelectList) × Groups-SelectList x) ((x : Tail) × Groups-Tail x) ((x : Added) × Groups-Added x) ((x : Arm) × Groups-Arm x) ((x : Chain) × Groups-Chain x) ((x : Conjunction) × Groups-Conjunction x) ((x : Expr) × Groups-Expr x) ((x : Factor) × Groups-Factor x) ((x : Further) × Groups-Further x) ((x : Multiplied) × Groups-Multiplied x) ((x : Negation) × Groups-Negation x) ((x : Predicate) × Groups-Predicate x) ((x : Query) × Groups-Query x) ((x : Select) × Groups-Select x) ((x : Sum) × Groups-Sum x) ((x : Term) × Groups-Term x) Join Operand SelectItem SelectList Tail Added Arm Chain Conjunction Expr Factor Further Multiplied Negation Predicate Query Select Sum Term (λ e. e.0) (λ e. e.0) (λ e. e.0) (λ e. e.0) (λ e. e.0) (λ e. e.0) (λ e. e.0) (λ e. e.0) (λ e. e.0) (λ e. e.0) (λ e. e.0) (λ e. e.0) (λ e. e.0) (λ e. e.0) (λ e. e.0) (λ e. e.0) (λ e. e.0) (λ e. e.0) (λ e. e.0) y))
step_Conjunction y = group_Conjunction (map (λ e. e.0) y.every) (firsts Groups-Negation y.every)

step_Expr : (y : Of Expr-F) → Groups-Expr (roll-Expr (map-Expr ((x : Join) × Groups-Join x) ((x : Operand) × Groups-Operand x) ((x : SelectItem) × Groups-SelectItem x) ((x : SelectList) × Groups-SelectList x) ((x : Tail) × Groups-Tail x) ((x : Added) × Groups-Added x) ((x : Arm) × Groups-Arm x) ((x : Chain) × Groups-Chain x) ((x : Conjunction) × Groups-Conjunction x) ((x : Expr) × Groups-Expr x) ((x : Factor) × Groups-Factor x) ((x : Further) × Groups-Further x) ((x : Multiplied) × Groups-Multiplied x) ((x : Negation) × Groups-Negation x) ((x : Predicate) × Groups-Predicate x) ((x : Query) × Groups-Query x) ((x : Select) × Groups-Select x) ((x : Sum) × Groups-Sum x) ((x : Term) × Groups-Term x) Join Operand SelectItem SelectList Tail Added Arm Chain Conjunction Expr Factor Further Multiplied Negation Predicate Query Select Sum Term (λ e. e.0) (λ e. e.0) (λ e. e.0) (λ e. e.0) (λ e. e.0) (λ e. e.0) (λ e. e.0) (λ e. e.0) (λ e. e.0) (λ e. e.0) (λ e. e.0) (λ e. e.0) (λ e. e.0) (λ e. e.0) (λ e. e.0) (λ e. e.0) (λ e. e.0) (λ e. e.0) (λ e. e.0) y))
step_Expr y = group_Expr (map (λ e. e.0) y.any) (firsts Groups-Conjunction y.any)

step_Factor : (y : Of Factor-F) → Groups-Factor (roll-Factor (map-Factor ((x : Join) × Groups-Join x) ((x : Operand) × Groups-Operand x) ((x : SelectItem) × Groups-SelectItem x) ((x : SelectList) × Groups-SelectList x) ((x : Tail) × Groups-Tail x) ((x : Added) × Groups-Added x) ((x : Arm) × Groups-Arm x) ((x : Chain) × Groups-Chain x) ((x : Conjunction) × Groups-Conjunction x) ((x : Expr) × Groups-Expr x) ((x : Factor) × Groups-Factor x) ((x : Further) × Groups-Further x) ((x : Multiplied) × Groups-Multiplied x) ((x : Negation) × Groups-Negation x) ((x : Predicate) × Groups-Predicate x) ((x : Query) × Groups-Query x) ((x : Select) × Groups-Select x) ((x : Sum) × Groups-Sum x) ((x : Term) × Groups-Term x) Join Operand SelectItem SelectList Tail Added Arm Chain Conjunction Expr Factor Further Multiplied Negation Predicate Query Select Sum Term (λ e. e.0) (λ e. e.0) (λ e. e.0) (λ e. e.0) (λ e. e.0) (λ e. e.0) (λ e. e.0) (λ e. e.0) (λ e. e.0) (λ e. e.0) (λ e. e.0) (λ e. e.0) (λ e. e.0) (λ e. e.0) (λ e. e.0) (λ e. e.0) (λ e. e.0) (λ e. e.0) (λ e. e.0) y))
step_Factor y = group_Factor y.minus y.operand.0 y.operand.1

step_Further : (y : Of Further-F) → Groups-Further (roll-Further (map-Further ((x : Join) × Groups-Join x) ((x : Operand) × Groups-Operand x) ((x : SelectItem) × Groups-SelectItem x) ((x : SelectList) × Groups-SelectList x) ((x : Tail) × Groups-Tail x) ((x : Added) × Groups-Added x) ((x : Arm) × Groups-Arm x) ((x : Chain) × Groups-Chain x) ((x : Conjunction) × Groups-Conjunction x) ((x : Expr) × Groups-Expr x) ((x : Factor) × Groups-Factor x) ((x : Further) × Groups-Further x) ((x : Multiplied) × Groups-Multiplied x) ((x : Negation) × Groups-Negation x) ((x : Predicate) × Groups-Predicate x) ((x : Query) × Groups-Query x) ((x : Select) × Groups-Select x) ((x : Sum) × Groups-Sum x) ((x : Term) × Groups-Term x) Join Operand SelectItem SelectList Tail Added Arm Chain Conjunction Expr Factor Further Multiplied Negation Predicate Query Select Sum Term (λ e. e.0) (λ e. e.0) (λ e. e.0) (λ e. e.0) (λ e. e.0) (λ e. e.0) (λ e. e.0) (λ e. e.0) (λ e. e.0) (λ e. e.0) (λ e. e.0) (λ e. e.0) (λ e. e.0) (λ e. e.0) (λ e. e.0) (λ e. e.0) (λ e. e.0) (λ e. e.0) (λ e. e.0) y))
step_Further y = group_Further y.by y.all y.select.0 y.select.1

step_Multiplied : (y : Of Multiplied-F) → Groups-Multiplied (roll-Multiplied (map-Multiplied ((x : Join) × Groups-Join x) ((x : Operand) × Groups-Operand x) ((x : SelectItem) × Groups-SelectItem x) ((x : SelectList) × Groups-SelectList x) ((x : Tail) × Groups-Tail x) ((x : Added) × Groups-Added x) ((x : Arm) × Groups-Arm x) ((x : Chain) × Groups-Chain x) ((x : Conjunction) × Groups-Conjunction x) ((x : Expr) × Groups-Expr x) ((x : Factor) × Groups-Factor x) ((x : Further) × Groups-Further x) ((x : Multiplied) × Groups-Multiplied x) ((x : Negation) × Groups-Negation x) ((x : Predicate) × Groups-Predicate x) ((x : Query) × Groups-Query x) ((x : Select) × Groups-Select x) ((x : Sum) × Groups-Sum x) ((x : Term) × Groups-Term x) Join Operand SelectItem SelectList Tail Added Arm Chain Conjunction Expr Factor Further Multiplied Negation Predicate Query Select Sum Term (λ e. e.0) (λ e. e.0) (λ e. e.0) (λ e. e.0) (λ e. e.0) (λ e. e.0) (λ e. e.0) (λ e. e.0) (λ e. e.0) (λ e. e.0) (λ e. e.0) (λ e. e.0) (λ e. e.0) (λ e. e.0) (λ e. e.0) (λ e. e.0) (λ e. e.0) (λ e. e.0) (λ e. e.0) y))
step_Multiplied y = group_Multiplied y.by y.factor.0 y.factor.1

step_Negation : (y : Of Negation-F) → Groups-Negation (roll-Negation (map-Negation ((x : Join) × Groups-Join x) ((x : Operand) × Groups-Operand x) ((x : SelectItem) × Groups-SelectItem x) ((x : SelectList) × Groups-SelectList x) ((x : Tail) × Groups-Tail x) ((x : Added) × Groups-Added x) ((x : Arm) × Groups-Arm x) ((x : Chain) × Groups-Chain x) ((x : Conjunction) × Groups-Conjunction x) ((x : Expr) × Groups-Expr x) ((x : Factor) × Groups-Factor x) ((x : Further) × Groups-Further x) ((x : Multiplied) × Groups-Multiplied x) ((x : Negation) × Groups-Negation x) ((x : Predicate) × Groups-Predicate x) ((x : Query) × Groups-Query x) ((x : Select) × Groups-Select x) ((x : Sum) × Groups-Sum x) ((x : Term) × Groups-Term x) Join Operand SelectItem SelectList Tail Added Arm Chain Conjunction Expr Factor Further Multiplied Negation Predicate Query Select Sum Term (λ e. e.0) (λ e. e.0) (λ e. e.0) (λ e. e.0) (λ e. e.0) (λ e. e.0) (λ e. e.0) (λ e. e.0) (λ e. e.0) (λ e. e.0) (λ e. e.0) (λ e. e.0) (λ e. e.0) (λ e. e.0) (λ e. e.0) (λ e. e.0) (λ e. e.0) (λ e. e.0) (λ e. e.0) y))
step_Negation y = group_Negation y.negated y.predicate.0 y.predicate.1

step_Predicate : (y : Of Predicate-F) → Groups-Predicate (roll-Predicate (map-Predicate ((x : Join) × Groups-Join x) ((x : Operand) × Groups-Operand x) ((x : SelectItem) × Groups-SelectItem x) ((x : SelectList) × Groups-SelectList x) ((x : Tail) × Groups-Tail x) ((x : Added) × Groups-Added x) ((x : Arm) × Groups-Arm x) ((x : Chain) × Groups-Chain x) ((x : Conjunction) × Groups-Conjunction x) ((x : Expr) × Groups-Expr x) ((x : Factor) × Groups-Factor x) ((x : Further) × Groups-Further x) ((x : Multiplied) × Groups-Multiplied x) ((x : Negation) × Groups-Negation x) ((x : Predicate) × Groups-Predicate x) ((x : Query) × Groups-Query x) ((x : Select) × Groups-Select x) ((x : Sum) × Groups-Sum x) ((x : Term) × Groups-Term x) Join Operand SelectItem SelectList Tail Added Arm Chain Conjunction Expr Factor Further Multiplied Negation Predicate Query Select Sum Term (λ e. e.0) (λ e. e.0) (λ e. e.0) (λ e. e.0) (λ e. e.0) (λ e. e.0) (λ e. e.0) (λ e. e.0) (λ e. e.0) (λ e. e.0) (λ e. e.0) (λ e. e.0) (λ e. e.0) (λ e. e.0) (λ e. e.0) (λ e. e.0) (λ e. e.0) (λ e. e.0) (λ e. e.0) y))
step_Predicate y = cases y.tail
  where
    cases : (o : Option ((x : Tail) × Groups-Tail x)) → Groups-Predicate (roll-Predicate (map-Predicate ((x : Join) × Groups-Join x) ((x : Operand) × Groups-Operand x) ((x : SelectItem) × Groups-SelectItem x) ((x : SelectList) × Groups-SelectList x) ((x : Tail) × Groups-Tail x) ((x : Added) × Groups-Added x) ((x : Arm) × Groups-Arm x) ((x : Chain) × Groups-Chain x) ((x : Conjunction) × Groups-Conjunction x) ((x : Expr) × Groups-Expr x) ((x : Factor) × Groups-Factor x) ((x : Further) × Groups-Further x) ((x : Multiplied) × Groups-Multiplied x) ((x : Negation) × Groups-Negation x) ((x : Predicate) × Groups-Predicate x) ((x : Query) × Groups-Query x) ((x : Select) × Groups-Select x) ((x : Sum) × Groups-Sum x) ((x : Term) × Groups-Term x) Join Operand SelectItem SelectList Tail Added Arm Chain Conjunction Expr Factor Further Multiplied Negation Predicate Query Select Sum Term (λ e. e.0) (λ e. e.0) (λ e. e.0) (λ e. e.0) (λ e. e.0) (λ e. e.0) (λ e. e.0) (λ e. e.0) (λ e. e.0) (λ e. e.0) (λ e. e.0) (λ e. e.0) (λ e. e.0) (λ e. e.0) (λ e. e.0) (λ e. e.0) (λ e. e.0) (λ e. e.0) (λ e. e.0) (record y { tail = o })))
    cases None = group_Predicate y.tested.0 None y.tested.1 tt
    cases (Some o) = group_Predicate y.tested.0 (Some o.0) y.tested.1 o.1

step_Query : (y : Of Query-F) → Groups-Query (roll-Query (map-Query ((x : Join) × Groups-Join x) ((x : Operand) × Groups-Operand x) ((x : SelectItem) × Groups-SelectItem x) ((x : SelectList) × Groups-SelectList x) ((x : Tail) × Groups-Tail x) ((x : Added) × Groups-Added x) ((x : Arm) × Groups-Arm x) ((x : Chain) × Groups-Chain x) ((x : Conjunction) × Groups-Conjunction x) ((x : Expr) × Groups-Expr x) ((x : Factor) × Groups-Factor x) ((x : Further) × Groups-Further x) ((x : Multiplied) × Groups-Multiplied x) ((x : Negation) × Groups-Negation x) ((x : Predicate) × Groups-Predicate x) ((x : Query) × Groups-Query x) ((x : Select) × Groups-Select x) ((x : Sum) × Groups-Sum x) ((x : Term) × Groups-Term x) Join Operand SelectItem SelectList Tail Added Arm Chain Conjunction Expr Factor Further Multiplied Negation Predicate Query Select Sum Term (λ e. e.0) (λ e. e.0) (λ e. e.0) (λ e. e.0) (λ e. e.0) (λ e. e.0) (λ e. e.0) (λ e. e.0) (λ e. e.0) (λ e. e.0) (λ e. e.0) (λ e. e.0) (λ e. e.0) (λ e. e.0) (λ e. e.0) (λ e. e.0) (λ e. e.0) (λ e. e.0) (λ e. e.0) y))
step_Query y = group_Query y.first.0 (map (λ e. e.0) y.others) y.first.1 (firsts Groups-Further y.others)

step_Select : (y : Of Select-F) → Groups-Select (roll-Select (map-Select ((x : Join) × Groups-Join x) ((x : Operand) × Groups-Operand x) ((x : SelectItem) × Groups-SelectItem x) ((x : SelectList) × Groups-SelectList x) ((x : Tail) × Groups-Tail x) ((x : Added) × Groups-Added x) ((x : Arm) × Groups-Arm x) ((x : Chain) × Groups-Chain x) ((x : Conjunction) × Groups-Conjunction x) ((x : Expr) × Groups-Expr x) ((x : Factor) × Groups-Factor x) ((x : Further) × Groups-Further x) ((x : Multiplied) × Groups-Multiplied x) ((x : Negation) × Groups-Negation x) ((x : Predicate) × Groups-Predicate x) ((x : Query) × Groups-Query x) ((x : Select) × Groups-Select x) ((x : Sum) × Groups-Sum x) ((x : Term) × Groups-Term x) Join Operand SelectItem SelectList Tail Added Arm Chain Conjunction Expr Factor Further Multiplied Negation Predicate Query Select Sum Term (λ e. e.0) (λ e. e.0) (λ e. e.0) (λ e. e.0) (λ e. e.0) (λ e. e.0) (λ e. e.0) (λ e. e.0) (λ e. e.0) (λ e. e.0) (λ e. e.0) (λ e. e.0) (λ e. e.0) (λ e. e.0) (λ e. e.0) (λ e. e.0) (λ e. e.0) (λ e. e.0) (λ e. e.0) y))
step_Select y = cases y.filter
  where
    cases : (o : Option ((x : Expr) × Groups-Expr x)) → Groups-Select (roll-Select (map-Select ((x : Join) × Groups-Join x) ((x : Operand) × Groups-Operand x) ((x : SelectItem) × Groups-SelectItem x) ((x : SelectList) × Groups-SelectList x) ((x : Tail) × Groups-Tail x) ((x : Added) × Groups-Added x) ((x : Arm) × Groups-Arm x) ((x : Chain) × Groups-Chain x) ((x : Conjunction) × Groups-Conjunction x) ((x : Expr) × Groups-Expr x) ((x : Factor) × Groups-Factor x) ((x : Further) × Groups-Further x) ((x : Multiplied) × Groups-Multiplied x) ((x : Negation) × Groups-Negation x) ((x : Predicate) × Groups-Predicate x) ((x : Query) × Groups-Query x) ((x : Select) × Groups-Select x) ((x : Sum) × Groups-Sum x) ((x : Term) × Groups-Term x) Join Operand SelectItem SelectList Tail Added Arm Chain Conjunction Expr Factor Further Multiplied Negation Predicate Query Select Sum Term (λ e. e.0) (λ e. e.0) (λ e. e.0) (λ e. e.0) (λ e. e.0) (λ e. e.0) (λ e. e.0) (λ e. e.0) (λ e. e.0) (λ e. e.0) (λ e. e.0) (λ e. e.0) (λ e. e.0) (λ e. e.0) (λ e. e.0) (λ e. e.0) (λ e. e.0) (λ e. e.0) (λ e. e.0) (record y { filter = o })))
    cases None = group_Select y.distinct y.list.0 (map (λ e. e.0) y.from) None y.group_by y.list.1 (firsts Groups-Chain y.from) tt
    cases (Some o) = group_Select y.distinct y.list.0 (map (λ e. e.0) y.from) (Some o.0) y.group_by y.list.1 (firsts Groups-Chain y.from) o.1

step_Sum : (y : Of Sum-F) → Groups-Sum (roll-Sum (map-Sum ((x : Join) × Groups-Join x) ((x : Operand) × Groups-Operand x) ((x : SelectItem) × Groups-SelectItem x) ((x : SelectList) × Groups-SelectList x) ((x : Tail) × Groups-Tail x) ((x : Added) × Groups-Added x) ((x : Arm) × Groups-Arm x) ((x : Chain) × Groups-Chain x) ((x : Conjunction) × Groups-Conjunction x) ((x : Expr) × Groups-Expr x) ((x : Factor) × Groups-Factor x) ((x : Further) × Groups-Further x) ((x : Multiplied) × Groups-Multiplied x) ((x : Negation) × Groups-Negation x) ((x : Predicate) × Groups-Predicate x) ((x : Query) × Groups-Query x) ((x : Select) × Groups-Select x) ((x : Sum) × Groups-Sum x) ((x : Term) × Groups-Term x) Join Operand SelectItem SelectList Tail Added Arm Chain Conjunction Expr Factor Further Multiplied Negation Predicate Query Select Sum Term (λ e. e.0) (λ e. e.0) (λ e. e.0) (λ e. e.0) (λ e. e.0) (λ e. e.0) (λ e. e.0) (λ e. e.0) (λ e. e.0) (λ e. e.0) (λ e. e.0) (λ e. e.0) (λ e. e.0) (λ e. e.0) (λ e. e.0) (λ e. e.0) (λ e. e.0) (λ e. e.0) (λ e. e.0) y))
step_Sum y = group_Sum y.first.0 (map (λ e. e.0) y.others) y.first.1 (firsts Groups-Added y.others)

step_Term : (y : Of Term-F) → Groups-Term (roll-Term (map-Term ((x : Join) × Groups-Join x) ((x : Operand) × Groups-Operand x) ((x : SelectItem) × Groups-SelectItem x) ((x : SelectList) × Groups-SelectList x) ((x : Tail) × Groups-Tail x) ((x : Added) × Groups-Added x) ((x : Arm) × Groups-Arm x) ((x : Chain) × Groups-Chain x) ((x : Conjunction) × Groups-Conjunction x) ((x : Expr) × Groups-Expr x) ((x : Factor) × Groups-Factor x) ((x : Further) × Groups-Further x) ((x : Multiplied) × Groups-Multiplied x) ((x : Negation) × Groups-Negation x) ((x : Predicate) × Groups-Predicate x) ((x : Query) × Groups-Query x) ((x : Select) × Groups-Select x) ((x : Sum) × Groups-Sum x) ((x : Term) × Groups-Term x) Join Operand SelectItem SelectList Tail Added Arm Chain Conjunction Expr Factor Further Multiplied Negation Predicate Query Select Sum Term (λ e. e.0) (λ e. e.0) (λ e. e.0) (λ e. e.0) (λ e. e.0) (λ e. e.0) (λ e. e.0) (λ e. e.0) (λ e. e.0) (λ e. e.0) (λ e. e.0) (λ e. e.0) (λ e. e.0) (λ e. e.0) (λ e. e.0) (λ e. e.0) (λ e. e.0) (λ e. e.0) (λ e. e.0) y))
step_Term y = group_Term y.first.0 (map (λ e. e.0) y.others) y.first.1 (firsts Groups-Multiplied y.others)

pub query_grouped : (x : Query) → Groups-Query x
query_grouped = ind-Query Groups-Join Groups-Operand Groups-SelectItem Groups-SelectList Groups-Tail Groups-Added Groups-Arm Groups-Chain Groups-Conjunction Groups-Expr Groups-Factor Groups-Further Groups-Multiplied Groups-Negation Groups-Predicate Groups-Query Groups-Select Groups-Sum Groups-Term
    (λ x y is. subst (λ z. Groups-Join (roll-Join z)) is (step_Join y)) (λ x y is. subst (λ z. Groups-Operand (roll-Operand z)) is (step_Operand y)) (λ x y is. subst (λ z. Groups-SelectItem (roll-SelectItem z)) is (step_SelectItem y)) (λ x y is. subst (λ z. Groups-SelectList (roll-SelectList z)) is (step_SelectList y)) (λ x y is. subst (λ z. Groups-Tail (roll-Tail z)) is (step_Tail y)) (λ x y is. subst (λ z. Groups-Added (roll-Added z)) is (step_Added y)) (λ x y is. subst (λ z. Groups-Arm (roll-Arm z)) is (step_Arm y)) (λ x y is. subst (λ z. Groups-Chain (roll-Chain z)) is (step_Chain y)) (λ x y is. subst (λ z. Groups-Conjunction (roll-Conjunction z)) is (step_Conjunction y)) (λ x y is. subst (λ z. Groups-Expr (roll-Expr z)) is (step_Expr y)) (λ x y is. subst (λ z. Groups-Factor (roll-Factor z)) is (step_Factor y)) (λ x y is. subst (λ z. Groups-Further (roll-Further z)) is (step_Further y)) (λ x y is. subst (λ z. Groups-Multiplied (roll-Multiplied z)) is (step_Multiplied y)) (λ x y is. subst (λ z. Groups-Negation (roll-Negation z)) is (step_Negation y)) (λ x y is. subst (λ z. Groups-Predicate (roll-Predicate z)) is (step_Predicate y)) (λ x y is. subst (λ z. Groups-Query (roll-Query z)) is (step_Query y)) (λ x y is. subst (λ z. Groups-Select (roll-Select z)) is (step_Select y)) (λ x y is. subst (λ z. Groups-Sum (roll-Sum z)) is (step_Sum y)) (λ x y is. subst (λ z. Groups-Term (roll-Term z)) is (step_Term y))

pub expr_grouped : (x : Expr) → Groups-Expr x
expr_grouped = ind-Expr Groups-Join Groups-Operand Groups-SelectItem Groups-SelectList Groups-Tail Groups-Added Groups-Arm Groups-Chain Groups-Conjunction Groups-Expr Groups-Factor Groups-Further Groups-Multiplied Groups-Negation Groups-Predicate Groups-Query Groups-Select Groups-Sum Groups-Term
    (λ x y is. subst (λ z. Groups-Join (roll-Join z)) is (step_Join y)) (λ x y is. subst (λ z. Groups-Operand (roll-Operand z)) is (step_Operand y)) (λ x y is. subst (λ z. Groups-SelectItem (roll-SelectItem z)) is (step_SelectItem y)) (λ x y is. subst (λ z. Groups-SelectList (roll-SelectList z)) is (step_SelectList y)) (λ x y is. subst (λ z. Groups-Tail (roll-Tail z)) is (step_Tail y)) (λ x y is. subst (λ z. Groups-Added (roll-Added z)) is (step_Added y)) (λ x y is. subst (λ z. Groups-Arm (roll-Arm z)) is (step_Arm y)) (λ x y is. subst (λ z. Groups-Chain (roll-Chain z)) is (step_Chain y)) (λ x y is. subst (λ z. Groups-Conjunction (roll-Conjunction z)) is (step_Conjunction y)) (λ x y is. subst (λ z. Groups-Expr (roll-Expr z)) is (step_Expr y)) (λ x y is. subst (λ z. Groups-Factor (roll-Factor z)) is (step_Factor y)) (λ x y is. subst (λ z. Groups-Further (roll-Further z)) is (step_Further y)) (λ x y is. subst (λ z. Groups-Multiplied (roll-Multiplied z)) is (step_Multiplied y)) (λ x y is. subst (λ z. Groups-Negation (roll-Negation z)) is (step_Negation y)) (λ x y is. subst (λ z. Groups-Predicate (roll-Predicate z)) is (step_Predicate y)) (λ x y is. subst (λ z. Groups-Query (roll-Query z)) is (step_Query y)) (λ x y is. subst (λ z. Groups-Select (roll-Select z)) is (step_Select y)) (λ x y is. subst (λ z. Groups-Sum (roll-Sum z)) is (step_Sum y)) (λ x y is. subst (λ z. Groups-Term (roll-Term z)) is (step_Term y))
