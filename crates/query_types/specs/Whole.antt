-- Queries and expressions with their types, or the first refusal: all names before types.
use Rattle.std.specs.Prelude.{Bool, not, ◌&&◌, if◌then◌else◌, List, [], Option, Some, None, Ok, Err}
use Rattle.sql_names.specs.declared.sort.SqlType.{SqlType}
use Rattle.sql_tree.specs.declared.expr.Expr.{Expr}
use Rattle.sql_tree.specs.declared.expr.Query.{Query}
use Rattle.name_scopes.specs.declared.scope.Scope.{Scope}
use Rattle.name_scopes.specs.declared.error.ResolveError.TheVariants.{TypeMismatch}
use Rattle.name_scopes.specs.Known.{Known}
use Rattle.name_scopes.specs.Outcomes.{Outcome, ◌>>=◌}
use Rattle.query_names.specs.Names as names
use Rattle.query_types.specs.declared.aggregates.Grouping.{Grouping}
use Rattle.query_types.specs.declared.whole.TypedExpr.{TypedExpr}
use Rattle.query_types.specs.declared.whole.TypedQuery.{TypedQuery}
use Rattle.query_types.specs.Grouping as grouping
use Rattle.query_types.specs.Types as types

-- outside of a select item no aggregate may stand
abbrev pub stands_alone : Grouping → Bool
stands_alone g = g.right && not g.own

-- the type of a resolved expression that is no select item
unfoldable pub expr_type : Known → Scope → Expr → Option SqlType
expr_type k scope e = if stands_alone (grouping.expr e) then types.expr k scope e [] else None

-- the types of the columns of a resolved query
unfoldable pub query_types : Known → Scope → Query → Option (List SqlType)
query_types k scope q = if (grouping.query q).right then types.query k scope q [] else None

abbrev pub typed_expr : Expr → Option SqlType → Outcome TypedExpr
typed_expr e None = Err TypeMismatch
typed_expr e (Some sort) = Ok (record { expr = e; sort = sort })

abbrev pub typed_query : Query → Option (List SqlType) → Outcome TypedQuery
typed_query q None = Err TypeMismatch
typed_query q (Some sorts) = Ok (record { query = q; sorts = sorts })

unfoldable pub resolved_expr : Known → Scope → Expr → Outcome TypedExpr
resolved_expr k scope e = do
  e' ← names.expr k scope e []
  typed_expr e' (expr_type k scope e')

unfoldable pub resolved_query : Known → Scope → Query → Outcome TypedQuery
resolved_query k scope q = do
  q' ← names.query k scope q []
  typed_query q' (query_types k scope q')
