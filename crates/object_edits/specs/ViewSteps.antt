-- What CREATE VIEW knows from step to step.
use Rattle.std.specs.Prelude.{◌≡◌, ◌≤◌, List, Option, None, Some, Ok, Err, length}
use Rattle.sql_names.specs.NameBytes.{NameBytes}
use Rattle.sql_names.specs.declared.object.Object.{Object}
use Rattle.sql_names.specs.declared.sort.SqlType.{SqlType}
use Rattle.name_scopes.specs.declared.error.ResolveError.TheVariants.{TypeMismatch}
use Rattle.name_scopes.specs.Outcomes.{Outcome}
use Rattle.query_types.specs.declared.whole.TypedQuery.{TypedQuery}
use Rattle.cat_items.specs.declared.item.View.{View}
use Rattle.cat_items.specs.declared.item.Item.{Item}
use Rattle.cat_items.specs.declared.item.Item.TheVariants as item
use Rattle.view_deps.specs.declared.resolve.Resolved.{Resolved}
use Rattle.view_deps.specs.Views.{IsResolved}
use Rattle.object_edits.specs.CreatedViews.{IsColumnMade, names_from}

-- what the names of the query come to: none where there is no type
abbrev pub IsNamed : Outcome TypedQuery → Option Resolved → Type 0
IsNamed outcome (Some r) = IsResolved outcome (Ok r)
IsNamed outcome None = outcome ≡ Err TypeMismatch

-- a query whose columns fit
pub record HasColumns (names : List NameBytes) (outcome : Outcome TypedQuery) (r : Resolved) : Type 0 where
  pub resolved : IsResolved outcome (Ok r)
  pub count : length (names_from names r.names) ≡ length r.sorts
  pub few : length (names_from names r.names) ≤ 4294967295

-- this view and its columns
abbrev pub IsAmong : View → List NameBytes → List SqlType → Item → Type 0
IsAmong view names sorts (item.View v) = v ≡ view
IsAmong view names sorts (item.Column x) = IsColumnMade view.view names sorts x
IsAmong view names sorts x = ⊥

-- these columns
abbrev pub IsColumnAmong : Object → List NameBytes → List SqlType → Item → Type 0
IsColumnAmong view names sorts (item.Column x) = IsColumnMade view names sorts x
IsColumnAmong view names sorts x = ⊥
