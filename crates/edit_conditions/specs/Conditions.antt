-- Conditions of constraints in statements: names come with the other names of a statement, types behind them.
use Rattle.std.specs.Prelude.{◌≡◌, List, Option, None, Some, Ok, Err}
use Rattle.sql_tree.specs.declared.expr.Expr.{Expr}
use Rattle.cat_items.specs.declared.item.Item.{Item}
use Rattle.cat_items.specs.Needs.{AreNeeds, NeededByCondition}
use Rattle.name_scopes.specs.declared.error.ResolveError.TheVariants.{TypeMismatch}
use Rattle.name_scopes.specs.declared.scope.Scope.{Scope}
use Rattle.name_scopes.specs.Outcomes.{Outcome}
use Rattle.query_types.specs.declared.whole.TypedExpr.{TypedExpr}
use Rattle.query_types.specs.Whole.{resolved_expr}
use Rattle.view_deps.specs.declared.resolve.ResolvedExpr.{ResolvedExpr}
use Rattle.view_deps.specs.Described.{known_of}
use Rattle.constraint_deps.specs.Conditions.{condition}

-- what a condition comes to, by what stands in a catalogue
abbrev pub outcome_in : List Item → Scope → Expr → Outcome TypedExpr
outcome_in c scope e = condition (resolved_expr (known_of c) scope e)

-- the resolved condition with its needs; none where it isn't BOOLEAN
abbrev pub IsFound : Outcome TypedExpr → Option ResolvedExpr → Type 0
IsFound outcome None = outcome ≡ Err TypeMismatch
IsFound outcome (Some r) = (outcome ≡ Ok (record { expr = r.expr; sort = r.sort })) × AreNeeds r.needs (NeededByCondition r.expr)
