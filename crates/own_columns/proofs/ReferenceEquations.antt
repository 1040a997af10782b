-- The references of a tree, one equation for each alternative.
use Rattle.std.proofs.Common.{◌≡◌, ℕ, Bool, List, [], ◌∷◌, ◌++◌, Option, map, ap, sym, ◌∙◌}
use Rattle.std.specs.Prelude.{option_map}
use Rattle.std.proofs.lemmas.List.{append-nil}
use Rattle.std.proofs.lemmas.List.Concat.{flat_map-append}
use Rattle.sql_tree.specs.declared.expr.Join.TheVariants as joins
use Rattle.sql_tree.specs.declared.expr.Operand.TheVariants as operands
use Rattle.sql_tree.specs.declared.expr.SelectItem.{SelectItem}
use Rattle.sql_tree.specs.declared.expr.SelectItem.TheVariants as items
use Rattle.sql_tree.specs.declared.expr.SelectList.TheVariants as lists
use Rattle.sql_tree.specs.declared.expr.Tail.TheVariants as tails
use Rattle.sql_tree.specs.declared.expr.Added.{Added}
use Rattle.sql_tree.specs.declared.expr.Arm.{Arm}
use Rattle.sql_tree.specs.declared.expr.Chain.{Chain}
use Rattle.sql_tree.specs.declared.expr.Conjunction.{Conjunction}
use Rattle.sql_tree.specs.declared.expr.Expr.{Expr}
use Rattle.sql_tree.specs.declared.expr.Factor.{Factor}
use Rattle.sql_tree.specs.declared.expr.Further.{Further}
use Rattle.sql_tree.specs.declared.expr.Multiplied.{Multiplied}
use Rattle.sql_tree.specs.declared.expr.Negation.{Negation}
use Rattle.sql_tree.specs.declared.expr.Predicate.{Predicate}
use Rattle.sql_tree.specs.declared.expr.Query.{Query}
use Rattle.sql_tree.specs.declared.expr.Select.{Select}
use Rattle.sql_tree.specs.declared.expr.Sum.{Sum}
use Rattle.sql_tree.specs.declared.expr.Term.{Term}
use Rattle.sql_tree.specs.declared.expr.Join.TheViews.{out-Added, roll-out-Added, out-Arm, roll-out-Arm, out-Chain, roll-out-Chain, out-Conjunction, roll-out-Conjunction, out-Expr, roll-out-Expr, out-Factor, roll-out-Factor, out-Further, roll-out-Further, out-Multiplied, roll-out-Multiplied, out-Negation, roll-out-Negation, out-Predicate, roll-out-Predicate, out-Query, roll-out-Query, out-Select, roll-out-Select, out-Sum, roll-out-Sum, out-Term, roll-out-Term}
use Rattle.sql_tree.specs.declared.expr.Comparison.{Comparison}
use Rattle.sql_tree.specs.declared.expr.Aggregate.{Aggregate}
use Rattle.sql_names.specs.declared.sort.SqlType.{SqlType}
use Rattle.sql_names.specs.declared.sort.Special.{Special}
use Rattle.sql_names.specs.declared.column.Reference.{Reference}
use Rattle.sql_names.specs.declared.column.ObjectName.{ObjectName}
use Rattle.sql_names.specs.declared.column.TableReference.{TableReference}
use Rattle.sql_names.specs.NameBytes.{NameBytes}
use Rattle.cat_items.specs.Pieces.{of_group, all_pieces, some_pieces, optional_pieces, expr_pieces, query_pieces}
use Rattle.resolved_trees.specs.TreePieces.{join_pieces, operand_pieces, select_item_pieces, select_list_pieces, tail_pieces, added_pieces, arm_pieces, chain_pieces, conjunction_pieces, factor_pieces, further_pieces, multiplied_pieces, negation_pieces, predicate_pieces, select_pieces, sum_pieces, term_pieces}
use Rattle.resolved_trees.proofs.PieceEquations.{pieces_of_Join_Inner, pieces_of_Join_Cross, pieces_of_Operand_Literal, pieces_of_Operand_Number, pieces_of_Operand_True, pieces_of_Operand_False, pieces_of_Operand_Special, pieces_of_Operand_Value, pieces_of_Operand_Reference, pieces_of_Operand_Call, pieces_of_Operand_CountAll, pieces_of_Operand_Aggregate, pieces_of_Operand_Case, pieces_of_Operand_Cast, pieces_of_Operand_Exists, pieces_of_Operand_Subquery, pieces_of_Operand_Parenthesized, pieces_of_SelectItem_Expr, pieces_of_SelectItem_QualifiedStar, pieces_of_SelectList_Star, pieces_of_SelectList_Listed, pieces_of_Tail_Compare, pieces_of_Tail_IsNull, pieces_of_Tail_Between, pieces_of_Tail_InQuery, pieces_of_Tail_InList, pieces_of_Tail_Like, pieces_Added, pieces_Arm, pieces_Chain, pieces_Conjunction, pieces_Expr, pieces_Factor, pieces_Further, pieces_Multiplied, pieces_Negation, pieces_Predicate, pieces_Query, pieces_Select, pieces_Sum, pieces_Term}
use Rattle.own_columns.specs.References.{piece_references, references_in}

-- a GROUP BY has none
no_groups : (before : List Reference) (gs : List Reference) → before ++ references_in (map of_group gs) ≡ before
no_groups before [] = append-nil before
no_groups before (g ∷ gs) = no_groups before gs

pub references_Join_Inner : (table' : TableReference) (on' : Expr) → references_in (join_pieces (joins.Inner table' on')) ≡ references_in (expr_pieces on')
references_Join_Inner table' on' = ap references_in (pieces_of_Join_Inner table' on')

pub references_Join_Cross : (table' : TableReference) → references_in (join_pieces (joins.Cross table')) ≡ []
references_Join_Cross table' = ap references_in (pieces_of_Join_Cross table')

pub references_Operand_Literal : (text' : List ℕ) → references_in (operand_pieces (operands.Literal text')) ≡ []
references_Operand_Literal text' = ap references_in (pieces_of_Operand_Literal text')

pub references_Operand_Number : (text' : List ℕ) → references_in (operand_pieces (operands.Number text')) ≡ []
references_Operand_Number text' = ap references_in (pieces_of_Operand_Number text')

pub references_Operand_True : references_in (operand_pieces operands.True) ≡ []
references_Operand_True = ap references_in pieces_of_Operand_True

pub references_Operand_False : references_in (operand_pieces operands.False) ≡ []
references_Operand_False = ap references_in pieces_of_Operand_False

pub references_Operand_Special : (special' : Special) → references_in (operand_pieces (operands.Special special')) ≡ []
references_Operand_Special special' = ap references_in (pieces_of_Operand_Special special')

pub references_Operand_Value : references_in (operand_pieces operands.Value) ≡ []
references_Operand_Value = ap references_in pieces_of_Operand_Value

pub references_Operand_Reference : (r' : Reference) → references_in (operand_pieces (operands.Reference r')) ≡ r' ∷ []
references_Operand_Reference r' = ap references_in (pieces_of_Operand_Reference r')

pub references_Operand_Call : (f' : ObjectName) (es' : List Expr) → references_in (operand_pieces (operands.Call f' es')) ≡ references_in (all_pieces (map expr_pieces es'))
references_Operand_Call f' es' = ap references_in (pieces_of_Operand_Call f' es')

pub references_Operand_CountAll : references_in (operand_pieces operands.CountAll) ≡ []
references_Operand_CountAll = ap references_in pieces_of_Operand_CountAll

pub references_Operand_Aggregate : (by' : Aggregate) (e' : Expr) → references_in (operand_pieces (operands.Aggregate by' e')) ≡ references_in (expr_pieces e')
references_Operand_Aggregate by' e' = ap references_in (pieces_of_Operand_Aggregate by' e')

pub references_Operand_Case : (arms' : List Arm) (e' : Option Expr) → references_in (operand_pieces (operands.Case arms' e')) ≡ references_in (all_pieces (map arm_pieces arms')) ++ references_in (optional_pieces (option_map expr_pieces e'))
references_Operand_Case arms' e' = ap references_in (pieces_of_Operand_Case arms' e') ∙ flat_map-append piece_references (some_pieces (map arm_pieces arms')) (optional_pieces (option_map expr_pieces e'))

pub references_Operand_Cast : (e' : Option Expr) (sort' : SqlType) → references_in (operand_pieces (operands.Cast e' sort')) ≡ references_in (optional_pieces (option_map expr_pieces e'))
references_Operand_Cast e' sort' = ap references_in (pieces_of_Operand_Cast e' sort')

pub references_Operand_Exists : (q' : Query) → references_in (operand_pieces (operands.Exists q')) ≡ references_in (query_pieces q')
references_Operand_Exists q' = ap references_in (pieces_of_Operand_Exists q')

pub references_Operand_Subquery : (q' : Query) → references_in (operand_pieces (operands.Subquery q')) ≡ references_in (query_pieces q')
references_Operand_Subquery q' = ap references_in (pieces_of_Operand_Subquery q')

pub references_Operand_Parenthesized : (e' : Expr) → references_in (operand_pieces (operands.Parenthesized e')) ≡ references_in (expr_pieces e')
references_Operand_Parenthesized e' = ap references_in (pieces_of_Operand_Parenthesized e')

pub references_SelectItem_Expr : (e' : Expr) (name' : Option NameBytes) → references_in (select_item_pieces (items.Expr e' name')) ≡ references_in (expr_pieces e')
references_SelectItem_Expr e' name' = ap references_in (pieces_of_SelectItem_Expr e' name')

pub references_SelectItem_QualifiedStar : (q' : NameBytes) → references_in (select_item_pieces (items.QualifiedStar q')) ≡ []
references_SelectItem_QualifiedStar q' = ap references_in (pieces_of_SelectItem_QualifiedStar q')

pub references_SelectList_Star : references_in (select_list_pieces lists.Star) ≡ []
references_SelectList_Star = ap references_in pieces_of_SelectList_Star

pub references_SelectList_Listed : (is' : List SelectItem) → references_in (select_list_pieces (lists.Listed is')) ≡ references_in (all_pieces (map select_item_pieces is'))
references_SelectList_Listed is' = ap references_in (pieces_of_SelectList_Listed is')

pub references_Tail_Compare : (by' : Comparison) (x' : Sum) → references_in (tail_pieces (tails.Compare by' x')) ≡ references_in (sum_pieces x')
references_Tail_Compare by' x' = ap references_in (pieces_of_Tail_Compare by' x')

pub references_Tail_IsNull : (negated' : Bool) → references_in (tail_pieces (tails.IsNull negated')) ≡ []
references_Tail_IsNull negated' = ap references_in (pieces_of_Tail_IsNull negated')

pub references_Tail_Between : (negated' : Bool) (x' : Sum) (y' : Sum) → references_in (tail_pieces (tails.Between negated' x' y')) ≡ references_in (sum_pieces x') ++ references_in (sum_pieces y')
references_Tail_Between negated' x' y' = ap references_in (pieces_of_Tail_Between negated' x' y') ∙ flat_map-append piece_references (sum_pieces x') (sum_pieces y')

pub references_Tail_InQuery : (negated' : Bool) (q' : Query) → references_in (tail_pieces (tails.InQuery negated' q')) ≡ references_in (query_pieces q')
references_Tail_InQuery negated' q' = ap references_in (pieces_of_Tail_InQuery negated' q')

pub references_Tail_InList : (negated' : Bool) (es' : List Expr) → references_in (tail_pieces (tails.InList negated' es')) ≡ references_in (all_pieces (map expr_pieces es'))
references_Tail_InList negated' es' = ap references_in (pieces_of_Tail_InList negated' es')

pub references_Tail_Like : (negated' : Bool) (x' : Sum) → references_in (tail_pieces (tails.Like negated' x')) ≡ references_in (sum_pieces x')
references_Tail_Like negated' x' = ap references_in (pieces_of_Tail_Like negated' x')

pub references_Added : (x' : Added) → references_in (added_pieces x') ≡ references_in (term_pieces (out-Added x').term)
references_Added x' = ap (λ z. references_in (added_pieces z)) (sym (roll-out-Added x')) ∙ ap references_in (pieces_Added (out-Added x').by (out-Added x').term)

pub references_Arm : (x' : Arm) → references_in (arm_pieces x') ≡ references_in (expr_pieces (out-Arm x').condition) ++ references_in (expr_pieces (out-Arm x').value)
references_Arm x' = ap (λ z. references_in (arm_pieces z)) (sym (roll-out-Arm x')) ∙ ap references_in (pieces_Arm (out-Arm x').condition (out-Arm x').value) ∙ flat_map-append piece_references (expr_pieces (out-Arm x').condition) (expr_pieces (out-Arm x').value)

pub references_Chain : (x' : Chain) → references_in (chain_pieces x') ≡ references_in (all_pieces (map join_pieces (out-Chain x').joins))
references_Chain x' = ap (λ z. references_in (chain_pieces z)) (sym (roll-out-Chain x')) ∙ ap references_in (pieces_Chain (out-Chain x').first (out-Chain x').joins)

pub references_Conjunction : (x' : Conjunction) → references_in (conjunction_pieces x') ≡ references_in (all_pieces (map negation_pieces (out-Conjunction x').every))
references_Conjunction x' = ap (λ z. references_in (conjunction_pieces z)) (sym (roll-out-Conjunction x')) ∙ ap references_in (pieces_Conjunction (out-Conjunction x').every)

pub references_Expr : (x' : Expr) → references_in (expr_pieces x') ≡ references_in (all_pieces (map conjunction_pieces (out-Expr x').any))
references_Expr x' = ap (λ z. references_in (expr_pieces z)) (sym (roll-out-Expr x')) ∙ ap references_in (pieces_Expr (out-Expr x').any)

pub references_Factor : (x' : Factor) → references_in (factor_pieces x') ≡ references_in (operand_pieces (out-Factor x').operand)
references_Factor x' = ap (λ z. references_in (factor_pieces z)) (sym (roll-out-Factor x')) ∙ ap references_in (pieces_Factor (out-Factor x').minus (out-Factor x').operand)

pub references_Further : (x' : Further) → references_in (further_pieces x') ≡ references_in (select_pieces (out-Further x').select)
references_Further x' = ap (λ z. references_in (further_pieces z)) (sym (roll-out-Further x')) ∙ ap references_in (pieces_Further (out-Further x').by (out-Further x').all (out-Further x').select)

pub references_Multiplied : (x' : Multiplied) → references_in (multiplied_pieces x') ≡ references_in (factor_pieces (out-Multiplied x').factor)
references_Multiplied x' = ap (λ z. references_in (multiplied_pieces z)) (sym (roll-out-Multiplied x')) ∙ ap references_in (pieces_Multiplied (out-Multiplied x').by (out-Multiplied x').factor)

pub references_Negation : (x' : Negation) → references_in (negation_pieces x') ≡ references_in (predicate_pieces (out-Negation x').predicate)
references_Negation x' = ap (λ z. references_in (negation_pieces z)) (sym (roll-out-Negation x')) ∙ ap references_in (pieces_Negation (out-Negation x').negated (out-Negation x').predicate)

pub references_Predicate : (x' : Predicate) → references_in (predicate_pieces x') ≡ references_in (sum_pieces (out-Predicate x').tested) ++ references_in (optional_pieces (option_map tail_pieces (out-Predicate x').tail))
references_Predicate x' = ap (λ z. references_in (predicate_pieces z)) (sym (roll-out-Predicate x')) ∙ ap references_in (pieces_Predicate (out-Predicate x').tested (out-Predicate x').tail) ∙ flat_map-append piece_references (sum_pieces (out-Predicate x').tested) (optional_pieces (option_map tail_pieces (out-Predicate x').tail))

pub references_Query : (x' : Query) → references_in (query_pieces x') ≡ references_in (select_pieces (out-Query x').first) ++ references_in (all_pieces (map further_pieces (out-Query x').others))
references_Query x' = ap (λ z. references_in (query_pieces z)) (sym (roll-out-Query x')) ∙ ap references_in (pieces_Query (out-Query x').first (out-Query x').others) ∙ flat_map-append piece_references (select_pieces (out-Query x').first) (all_pieces (map further_pieces (out-Query x').others))

pub references_Select : (x' : Select) → references_in (select_pieces x') ≡ (references_in (select_list_pieces (out-Select x').list) ++ references_in (all_pieces (map chain_pieces (out-Select x').from))) ++ references_in (optional_pieces (option_map expr_pieces (out-Select x').filter))
references_Select x' = ap (λ z. references_in (select_pieces z)) (sym (roll-out-Select x')) ∙ ap references_in (pieces_Select (out-Select x').distinct (out-Select x').list (out-Select x').from (out-Select x').filter (out-Select x').group_by)
    ∙ flat_map-append piece_references (((select_list_pieces (out-Select x').list) ++ (some_pieces (map chain_pieces (out-Select x').from))) ++ (optional_pieces (option_map expr_pieces (out-Select x').filter))) (map of_group (out-Select x').group_by) ∙ no_groups (references_in (((select_list_pieces (out-Select x').list) ++ (some_pieces (map chain_pieces (out-Select x').from))) ++ (optional_pieces (option_map expr_pieces (out-Select x').filter)))) (out-Select x').group_by
    ∙ flat_map-append piece_references ((select_list_pieces (out-Select x').list) ++ (some_pieces (map chain_pieces (out-Select x').from))) (optional_pieces (option_map expr_pieces (out-Select x').filter)) ∙ ap (λ l. l ++ references_in (optional_pieces (option_map expr_pieces (out-Select x').filter))) (flat_map-append piece_references (select_list_pieces (out-Select x').list) (some_pieces (map chain_pieces (out-Select x').from)))

pub references_Sum : (x' : Sum) → references_in (sum_pieces x') ≡ references_in (term_pieces (out-Sum x').first) ++ references_in (all_pieces (map added_pieces (out-Sum x').others))
references_Sum x' = ap (λ z. references_in (sum_pieces z)) (sym (roll-out-Sum x')) ∙ ap references_in (pieces_Sum (out-Sum x').first (out-Sum x').others) ∙ flat_map-append piece_references (term_pieces (out-Sum x').first) (all_pieces (map added_pieces (out-Sum x').others))

pub references_Term : (x' : Term) → references_in (term_pieces x') ≡ references_in (factor_pieces (out-Term x').first) ++ references_in (all_pieces (map multiplied_pieces (out-Term x').others))
references_Term x' = ap (λ z. references_in (term_pieces z)) (sym (roll-out-Term x')) ∙ ap references_in (pieces_Term (out-Term x').first (out-Term x').others) ∙ flat_map-append piece_references (factor_pieces (out-Term x').first) (all_pieces (map multiplied_pieces (out-Term x').others))

pub ruleset referred = (references_Join_Inner, references_Join_Cross, references_Operand_Literal, references_Operand_Number, references_Operand_True, references_Operand_False, references_Operand_Special, references_Operand_Value, references_Operand_Reference, references_Operand_Call, references_Operand_CountAll, references_Operand_Aggregate, references_Operand_Case, references_Operand_Cast, references_Operand_Exists, references_Operand_Subquery, references_Operand_Parenthesized, references_SelectItem_Expr, references_SelectItem_QualifiedStar, references_SelectList_Star, references_SelectList_Listed, references_Tail_Compare, references_Tail_IsNull, references_Tail_Between, references_Tail_InQuery, references_Tail_InList, references_Tail_Like, references_Added, references_Arm, references_Chain, references_Conjunction, references_Expr, references_Factor, references_Further, references_Multiplied, references_Negation, references_Predicate, references_Query, references_Select, references_Sum, references_Term)
