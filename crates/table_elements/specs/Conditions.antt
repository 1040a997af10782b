-- Conditions of a table's checks (check constraint definition, SQL:2003 part 2, 11.9).
use Rattle.std.specs.Prelude.{false, List, [], map, None, Some}
use Rattle.sql_names.specs.declared.sort.Param.{Param}
use Rattle.sql_tree.specs.declared.expr.Expr.{Expr}
use Rattle.cat_items.specs.declared.edit.Who.{Who}
use Rattle.cat_items.specs.declared.item.Item.{Item}
use Rattle.name_scopes.specs.declared.scope.OwnTable.{OwnTable}
use Rattle.name_scopes.specs.declared.scope.Scope.{Scope}
use Rattle.name_scopes.specs.Outcomes.{Outcome}
use Rattle.query_types.specs.declared.whole.TypedExpr.{TypedExpr}
use Rattle.table_work.specs.declared.work.Work.{Work}
use Rattle.edit_conditions.specs.Conditions.{outcome_in}

-- the table that is made or altered, with its columns
abbrev pub own_table : Work → OwnTable
own_table w = record { table = w.table; names = map (λ (x : Param). x.name) w.columns; sorts = map (λ (x : Param). x.sort) w.columns }

-- around the condition of a check: the columns of its table may be named, and base tables alone
abbrev pub check_scope : Who → Work → Scope
check_scope who w = record { schema = who.schema; own = Some (own_table w); params = []; value = None; itself = None; views = false }

-- what the condition of a check comes to
abbrev pub outcome_of : List Item → Who → Work → Expr → Outcome TypedExpr
outcome_of c who w condition = outcome_in c (check_scope who w) condition
