-- What resolves is resolved: its names by their walk, its GROUP BY by the rules of types.
use Rattle.std.proofs.Common.{◌≡◌, Bool, true, false, ◌&&◌, List, [], ◌∷◌, Option, Some, None, Ok, Err, ap, subst, refl}
use Rattle.std.specs.Prelude.{if◌then◌else◌}
use Rattle.sql_names.specs.declared.column.Reference.TheVariants as references
use Rattle.sql_names.specs.declared.sort.SqlType.{SqlType}
use Rattle.sql_tree.specs.declared.expr.Expr.{Expr}
use Rattle.sql_tree.specs.declared.expr.Query.{Query}
use Rattle.name_scopes.specs.declared.error.ResolveError.TheVariants.{TypeMismatch}
use Rattle.name_scopes.specs.declared.scope.Scope.{Scope}
use Rattle.name_scopes.specs.Known.{Known}
use Rattle.name_scopes.specs.Outcomes.{Outcome}
use Rattle.query_names.specs.Names as names
use Rattle.query_types.specs.declared.whole.TypedExpr.{TypedExpr}
use Rattle.query_types.specs.declared.whole.TypedQuery.{TypedQuery}
use Rattle.query_types.specs.Grouping as grouping
use Rattle.query_types.specs.Types as types
use Rattle.query_types.specs.Whole.{stands_alone, expr_type, query_types, typed_expr, typed_query, resolved_expr, resolved_query}
use Rattle.cat_items.specs.Pieces.{Piece, Pieces, IsResolved, IsFormed, AreFormed, AreResolved, of_reference, of_group, of_object, of_name, of_star, of_literal, of_number, of_type, of_length, of_subquery, expr_pieces, query_pieces}
use Rattle.resolved_trees.specs.Named.{IsNamed, IsGrouped, HaveColumns}
use Rattle.resolved_trees.proofs.Everies.{Every, every_to, every_from}
use Rattle.resolved_trees.proofs.Outcomes.{bound, ok_is}
use Rattle.resolved_trees.proofs.Kept.{query_named, expr_named}
use Rattle.resolved_trees.proofs.Grouped.{query_grouped, expr_grouped}

one_resolved : (p : Piece) → IsNamed p → IsGrouped p → IsResolved p
one_resolved (of_group (references.Cell up at q c)) named grouped = tt
one_resolved (of_group (references.Own t c)) named grouped = absurd grouped
one_resolved (of_group (references.Param c)) named grouped = absurd grouped
one_resolved (of_group (references.Unqualified c)) named grouped = absurd grouped
one_resolved (of_group (references.Qualified q c)) named grouped = absurd grouped
one_resolved (of_reference r) named grouped = named
one_resolved (of_object o) named grouped = named
one_resolved (of_name n) named grouped = named
one_resolved of_star named grouped = named
one_resolved (of_literal text) named grouped = named
one_resolved (of_number text) named grouped = named
one_resolved (of_type sort) named grouped = named
one_resolved (of_length n) named grouped = named
one_resolved of_subquery named grouped = named

each_resolved : (ps : Pieces) → Every IsNamed ps → Every IsGrouped ps → Every IsResolved ps
each_resolved [] named grouped = tt
each_resolved (p ∷ ps) named grouped = (one_resolved p named.0 grouped.0, each_resolved ps named.1 grouped.1)

all_resolved : (ps : Pieces) → Every IsNamed ps → Every IsGrouped ps → AreResolved ps
all_resolved ps named grouped = every_to IsResolved ps (each_resolved ps named grouped)

if_some : {A : Type 0} (b : Bool) (o : Option A) (x : A) → (if b then o else None) ≡ Some x → b ≡ true
if_some true o x e = refl
if_some false o x e = absurd (let odd : None ≡ Some x = e in cc)

both_first : (a b : Bool) → (a && b) ≡ true → a ≡ true
both_first true b e = refl
both_first false b e = e

query_right : (k : Known) (scope : Scope) (q : Query) (sorts : List SqlType) → query_types k scope q ≡ Some sorts → (grouping.query q).right ≡ true
unfolding query_types
query_right k scope q sorts e = if_some (grouping.query q).right (types.query k scope q []) sorts e

expr_right : (k : Known) (scope : Scope) (x : Expr) (sort : SqlType) → expr_type k scope x ≡ Some sort → (grouping.expr x).right ≡ true
unfolding expr_type
expr_right k scope x sort e = both_first (grouping.expr x).right _ (if_some (stands_alone (grouping.expr x)) (types.expr k scope x []) sort e)

typed_query_is : (q : Query) (o : Option (List SqlType)) (r : TypedQuery) → typed_query q o ≡ Ok r → (q ≡ r.query) × ((sorts : List SqlType) × (o ≡ Some sorts))
typed_query_is q None r e = absurd (let odd : ◌≡◌ {A = Outcome TypedQuery} (Err TypeMismatch) (Ok r) = e in cc)
typed_query_is q (Some sorts) r e = (ap (λ (t : TypedQuery). t.query) (ok_is (record { query = q; sorts = sorts }) r e), (sorts, refl))

typed_expr_is : (x : Expr) (o : Option SqlType) (r : TypedExpr) → typed_expr x o ≡ Ok r → (x ≡ r.expr) × ((sort : SqlType) × (o ≡ Some sort))
typed_expr_is x None r e = absurd (let odd : ◌≡◌ {A = Outcome TypedExpr} (Err TypeMismatch) (Ok r) = e in cc)
typed_expr_is x (Some sort) r e = (ap (λ (t : TypedExpr). t.expr) (ok_is (record { expr = x; sort = sort }) r e), (sort, refl))

pub query_resolved : (k : Known) (scope : Scope) → HaveColumns k → (q : Query) (r : TypedQuery) → AreFormed (query_pieces q) → resolved_query k scope q ≡ Ok r → AreResolved (query_pieces r.query)
unfolding resolved_query
query_resolved k scope wide q r formed e =
    let b = bound (names.query k scope q []) (λ x. typed_query x (query_types k scope x)) r e in
    let t = typed_query_is b.0 (query_types k scope b.0) r b.2 in
    subst (λ z. AreResolved (query_pieces z)) t.0
    (all_resolved (query_pieces b.0) (query_named k scope wide q [] b.0 (every_from IsFormed (query_pieces q) formed) b.1) (query_grouped b.0 (query_right k scope b.0 t.1.0 t.1.1)))

pub expr_resolved : (k : Known) (scope : Scope) → HaveColumns k → (x : Expr) (r : TypedExpr) → AreFormed (expr_pieces x) → resolved_expr k scope x ≡ Ok r → AreResolved (expr_pieces r.expr)
unfolding resolved_expr
expr_resolved k scope wide x r formed e =
    let b = bound (names.expr k scope x []) (λ y. typed_expr y (expr_type k scope y)) r e in
    let t = typed_expr_is b.0 (expr_type k scope b.0) r b.2 in
    subst (λ z. AreResolved (expr_pieces z)) t.0
    (all_resolved (expr_pieces b.0) (expr_named k scope wide x [] b.0 (every_from IsFormed (expr_pieces x) formed) b.1) (expr_grouped b.0 (expr_right k scope b.0 t.1.0 t.1.1)))
