-- A resolved query has a column, and the columns of a typed one have types.
use Rattle.std.proofs.Common.{◌≡◌, ◌<◌, Bool, true, false, List, [], ◌∷◌, ◌++◌, Option, Some, None, Ok, Err, length, map, ap, sym, subst, arith}
use Rattle.std.specs.Prelude.{flat_map, if◌then◌else◌, option_map}
use Rattle.std.specs.List.{Contains}
use Rattle.std.proofs.lemmas.List.Elements.{All-contains}
use Rattle.sql_names.specs.NameBytes.{NameBytes}
use Rattle.sql_names.specs.declared.sort.SqlType.{SqlType}
use Rattle.sql_tree.specs.declared.expr.Join.TheOpen.{SelectList-F}
use Rattle.sql_tree.specs.declared.expr.Join.TheViews.{roll-out-Query, roll-out-Select, roll-out-SelectList}
use Rattle.sql_tree.specs.declared.expr.Added.{Added}
use Rattle.sql_tree.specs.declared.expr.Arm.{Arm}
use Rattle.sql_tree.specs.declared.expr.Chain.{Chain}
use Rattle.sql_tree.specs.declared.expr.Conjunction.{Conjunction}
use Rattle.sql_tree.specs.declared.expr.Expr.{Expr}
use Rattle.sql_tree.specs.declared.expr.Factor.{Factor}
use Rattle.sql_tree.specs.declared.expr.Further.{Further}
use Rattle.sql_tree.specs.declared.expr.Join.{Join}
use Rattle.sql_tree.specs.declared.expr.Multiplied.{Multiplied}
use Rattle.sql_tree.specs.declared.expr.Negation.{Negation}
use Rattle.sql_tree.specs.declared.expr.Operand.{Operand}
use Rattle.sql_tree.specs.declared.expr.Predicate.{Predicate}
use Rattle.sql_tree.specs.declared.expr.Query.{Query, out-Query}
use Rattle.sql_tree.specs.declared.expr.Select.{Select, out-Select}
use Rattle.sql_tree.specs.declared.expr.SelectItem.{SelectItem}
use Rattle.sql_tree.specs.declared.expr.SelectItem.TheVariants as items
use Rattle.sql_tree.specs.declared.expr.SelectList.{SelectList, out-SelectList, roll-SelectList}
use Rattle.sql_tree.specs.declared.expr.Sum.{Sum}
use Rattle.sql_tree.specs.declared.expr.Tail.{Tail}
use Rattle.sql_tree.specs.declared.expr.Term.{Term}
use Rattle.name_scopes.specs.declared.error.ResolveError.TheVariants.{TypeMismatch}
use Rattle.name_scopes.specs.declared.scope.Scope.{Scope}
use Rattle.name_scopes.specs.Known.{Known}
use Rattle.name_scopes.specs.Outcomes.{Outcome}
use Rattle.query_names.specs.Names as names
use Rattle.query_types.specs.declared.whole.TypedQuery.{TypedQuery}
use Rattle.query_types.specs.Grouping as grouping
use Rattle.query_types.specs.Types as types
use Rattle.query_types.specs.Whole.{query_types, resolved_query, typed_query}
use Rattle.cat_items.specs.Pieces.{AreResolved, IsResolved, IsType, all_pieces, expr_pieces, of_group, optional_pieces, query_pieces, some_pieces}
use Rattle.view_deps.specs.Views.{column_names, names_in, query_scope}
use Rattle.resolved_trees.specs.TreePieces.{chain_pieces, further_pieces, select_item_pieces, select_list_pieces, select_pieces}
use Rattle.resolved_trees.proofs.Everies.{Every, every_from, every_left, every_to}
use Rattle.resolved_trees.proofs.Outcomes.{bound, ok_is}
use Rattle.resolved_trees.proofs.PieceEquations.{pieces_Query, pieces_Select, pieces_SelectList_Listed, pieces_SelectList_Star, pieces_of_SelectItem_Expr, pieces_of_SelectItem_QualifiedStar}
use Rattle.typed_trees.specs.Typed.{HaveTypes}
use Rattle.typed_trees.proofs.RuleTypes.{AllHaveTypes}
use Rattle.typed_trees.proofs.TypedTrees.{query_typed}

-- ---- a column

longer : {A : Type 0} (xs ys : List A) → 0 < length xs → 0 < length (xs ++ ys)
longer [] ys low = absurd (omega (arith, low))
longer (x ∷ xs) ys low = omega arith

one_name : (x : SelectItem) → Every IsResolved (select_item_pieces x) → 0 < length (names_in x)
one_name (items.Expr e (Some name)) r = omega arith
one_name (items.Expr e None) r = absurd (subst (Every IsResolved) (pieces_of_SelectItem_Expr e None) r).0
one_name (items.QualifiedStar q) r = absurd (subst (Every IsResolved) (pieces_of_SelectItem_QualifiedStar q) r).0

abbrev Open : Type 0
Open = SelectList-F Join Operand SelectItem SelectList Tail Added Arm Chain Conjunction Expr Factor Further Multiplied Negation Predicate Query Select Sum Term

abbrev names_listed : Open → List NameBytes
names_listed z = elim z [ SelectList-F.Star ↦ [] | SelectList-F.Listed all ↦ flat_map names_in all ]

some_names : (z : Open) → Every IsResolved (select_list_pieces (roll-SelectList z)) → 0 < length (names_listed z)
some_names SelectList-F.Star r = absurd (subst (Every IsResolved) pieces_SelectList_Star r).0
some_names (SelectList-F.Listed []) r = absurd (omega (arith, (subst (Every IsResolved) (pieces_SelectList_Listed []) r).0))
some_names (SelectList-F.Listed (x ∷ xs)) r =
    let parts = subst (Every IsResolved) (pieces_SelectList_Listed (x ∷ xs)) r in
    longer (names_in x) (flat_map names_in xs) (one_name x (every_left IsResolved (select_item_pieces x) (all_pieces (map select_item_pieces xs)) parts.1))

names_of_select : (s : Select) → Every IsResolved (select_pieces s) → 0 < length (names_listed (out-SelectList (out-Select s).list))
names_of_select s r =
    let o = out-Select s in
    let parts = subst (Every IsResolved) (pieces_Select o.distinct o.list o.from o.filter o.group_by) (subst (λ x. Every IsResolved (select_pieces x)) (sym (roll-out-Select s)) r) in
    let listed = every_left IsResolved (select_list_pieces o.list) (some_pieces (map chain_pieces o.from))
    (every_left IsResolved (select_list_pieces o.list ++ some_pieces (map chain_pieces o.from)) (optional_pieces (option_map expr_pieces o.filter))
    (every_left IsResolved ((select_list_pieces o.list ++ some_pieces (map chain_pieces o.from)) ++ optional_pieces (option_map expr_pieces o.filter)) (map of_group o.group_by) parts)) in
    some_names (out-SelectList o.list) (subst (λ x. Every IsResolved (select_list_pieces x)) (sym (roll-out-SelectList o.list)) listed)

pub has_column : (q : Query) → AreResolved (query_pieces q) → 0 < length (column_names q)
has_column q r =
    let o = out-Query q in
    let parts = subst (Every IsResolved) (pieces_Query o.first o.others) (subst (λ x. Every IsResolved (query_pieces x)) (sym (roll-out-Query q)) (every_from IsResolved (query_pieces q) r)) in
    names_of_select o.first (every_left IsResolved (select_pieces o.first) (all_pieces (map further_pieces o.others)) parts)

-- ---- types

if_some : {A : Type 0} (b : Bool) (o : Option A) (x : A) → (if b then o else None) ≡ Some x → o ≡ Some x
if_some true o x e = e
if_some false o x e = absurd (let odd : None ≡ Some x = e in cc)

types_of : (k : Known) (scope : Scope) (q : Query) (sorts : List SqlType) → query_types k scope q ≡ Some sorts → types.query k scope q [] ≡ Some sorts
unfolding query_types
types_of k scope q sorts e = if_some (grouping.query q).right (types.query k scope q []) sorts e

typed_query_is : (q : Query) (o : Option (List SqlType)) (r : TypedQuery) → typed_query q o ≡ Ok r → (q ≡ r.query) × (o ≡ Some r.sorts)
typed_query_is q None r e = absurd (let odd : ◌≡◌ {A = Outcome TypedQuery} (Err TypeMismatch) (Ok r) = e in cc)
typed_query_is q (Some sorts) r e =
    let same = ok_is (record { query = q; sorts = sorts }) r e in (ap (λ (t : TypedQuery). t.query) same, ap (λ (t : TypedQuery). Some t.sorts) same)

pub columns_typed : (k : Known) (schema : NameBytes) → HaveTypes k → (q : Query) (r : TypedQuery) → resolved_query k (query_scope schema) q ≡ Ok r → AreResolved (query_pieces r.query) → (sort : SqlType) → Contains r.sorts sort → IsType sort
unfolding resolved_query
columns_typed k schema have q r e resolved sort there =
    let scope = query_scope schema in
    let b = bound (names.query k scope q []) (λ x. typed_query x (query_types k scope x)) r e in
    let t = typed_query_is b.0 (query_types k scope b.0) r b.2 in
    let found : types.query k scope r.query [] ≡ Some r.sorts = subst (λ x. types.query k scope x [] ≡ Some r.sorts) t.0 (types_of k scope b.0 r.sorts t.1) in
    let all : Every IsType r.sorts = subst AllHaveTypes found (query_typed k schema have r.query (every_from IsResolved (query_pieces r.query) resolved) []) in
    All-contains IsType r.sorts sort (every_to IsType r.sorts all) there
