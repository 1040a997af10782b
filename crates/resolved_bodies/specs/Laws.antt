-- What resolves of a body.
use Rattle.std.specs.Prelude.{◌≡◌, Ok}
use Rattle.sql_tree.specs.declared.body.Body.{Body}
use Rattle.name_scopes.specs.declared.scope.Scope.{Scope}
use Rattle.name_scopes.specs.Known.{Known}
use Rattle.cat_items.specs.Pieces.{AreResolved, body_pieces}
use Rattle.resolved_trees.specs.Named.{HaveColumns}
use Rattle.routine_deps.specs.Bodies.{resolved_body}
use Rattle.routine_forms.specs.Formed.{IsFormedBody}

-- where each table has a column, what comes of a body that the grammar gave is resolved
abbrev pub BodiesAreResolved : Type 0
BodiesAreResolved = (k : Known) (scope : Scope) → HaveColumns k → (body resolved : Body) → IsFormedBody body → resolved_body k scope body ≡ Ok resolved → AreResolved (body_pieces resolved)
