-- Queries of a catalogue with all that a view keeps of them.
use Rattle.std.specs.Prelude.{◌≡◌, List, [], ◌∷◌, flat_map, Some, None, Result, Ok, Err, true}
use Rattle.sql_names.specs.NameBytes.{NameBytes}
use Rattle.sql_tree.specs.declared.expr.Query.{Query, out-Query}
use Rattle.sql_tree.specs.declared.expr.Select.{out-Select}
use Rattle.sql_tree.specs.declared.expr.SelectItem.{SelectItem}
use Rattle.sql_tree.specs.declared.expr.SelectItem.TheVariants as items
use Rattle.sql_tree.specs.declared.expr.SelectList.{SelectList, out-SelectList}
use Rattle.sql_tree.specs.declared.expr.Join.TheOpen.{SelectList-F}
use Rattle.std.specs.List.{Contains}
use Rattle.sql_tree.specs.declared.rights.Action.{Action}
use Rattle.cat_items.specs.Mentions.{expr_mentions}
use Rattle.cat_items.specs.Needs.{AreNeeds, NeededByQuery, needs_of_mentions}
use Rattle.cat_items.specs.Plain.{base_of, HasBase}
use Rattle.name_scopes.specs.declared.error.ResolveError.{ResolveError}
use Rattle.name_scopes.specs.declared.scope.Scope.{Scope}
use Rattle.name_scopes.specs.Outcomes.{Outcome, Answers}
use Rattle.query_types.specs.declared.whole.TypedQuery.{TypedQuery}
use Rattle.query_types.specs.declared.whole.TypedExpr.{TypedExpr}
use Rattle.view_deps.specs.declared.resolve.Resolved.{Resolved}
use Rattle.view_deps.specs.declared.resolve.ResolvedExpr.{ResolvedExpr}

-- around a query of its own, in which views may be named
abbrev pub query_scope : NameBytes → Scope
query_scope schema = record { schema = schema; own = None; params = []; value = None; itself = None; views = true }

abbrev pub names_in : SelectItem → List NameBytes
names_in (items.Expr expr (Some name)) = name ∷ []
names_in item = []

abbrev pub names_of : SelectList → List NameBytes
names_of list = elim (out-SelectList list) [ SelectList-F.Star ↦ [] | SelectList-F.Listed all ↦ flat_map names_in all ]

-- the names of the columns of a resolved query: those of its first SELECT
abbrev pub column_names : Query → List NameBytes
column_names query = names_of (out-Select (out-Query query).first).list

-- what a query comes to: the resolved one with the names and types of its columns, its needs and what it is plain on, or the first refusal
abbrev pub IsResolved : Outcome TypedQuery → Result Resolved ResolveError → Type 0
IsResolved outcome (Ok r) = (outcome ≡ Ok (record { query = r.query; sorts = r.sorts })) × (r.names ≡ column_names r.query) × AreNeeds r.needs (NeededByQuery r.query) × HasBase (base_of r.query) r.base r.base_columns
IsResolved outcome (Err error) = Answers outcome (Err error)

-- what an expression comes to, where it reads by this action
abbrev pub IsResolvedExpr : Action → Outcome TypedExpr → Result ResolvedExpr ResolveError → Type 0
IsResolvedExpr reading outcome (Ok r) = (outcome ≡ Ok (record { expr = r.expr; sort = r.sort })) × AreNeeds r.needs (λ need. Contains (needs_of_mentions reading (expr_mentions r.expr)) need)
IsResolvedExpr reading outcome (Err error) = Answers outcome (Err error)
