-- Bodies of routines with what they need, or the first refusal: all names before types.
use Rattle.std.specs.Prelude.{◌≡◌, true, if◌then◌else◌, Option, Some, None, Result, Ok, Err}
use Rattle.std.specs.List.{Contains}
use Rattle.sql_names.specs.NameBytes.{NameBytes}
use Rattle.sql_tree.specs.declared.body.Body.{Body}
use Rattle.name_scopes.specs.declared.error.ResolveError.{ResolveError}
use Rattle.name_scopes.specs.declared.error.ResolveError.TheVariants.{TypeMismatch}
use Rattle.name_scopes.specs.declared.scope.Scope.{Scope}
use Rattle.name_scopes.specs.declared.scope.Signature.{Signature}
use Rattle.name_scopes.specs.Known.{Known}
use Rattle.name_scopes.specs.Outcomes.{Outcome, ◌>>=◌, Answers}
use Rattle.cat_items.specs.declared.need.Need.{Need}
use Rattle.cat_items.specs.Needs.{AreNeeds, NeededByBody, body_needs}
use Rattle.routine_deps.specs.declared.resolve.ResolvedBody.{ResolvedBody}
use Rattle.routine_deps.specs.BodyNames as names
use Rattle.routine_deps.specs.BodyTypes.{body_fits}

-- what surrounds the body of a routine that is made in a session with this schema
abbrev pub body_scope : NameBytes → Signature → Scope
body_scope schema itself = record { schema = schema; own = None; params = itself.params; value = None; itself = Some itself; views = true }

abbrev pub typed_body : Known → Scope → Body → Outcome Body
typed_body k scope b = if body_fits k scope b then Ok b else Err TypeMismatch

unfoldable pub resolved_body : Known → Scope → Body → Outcome Body
resolved_body k scope b = names.body k scope b >>= typed_body k scope

-- what a body needs, where it is that of this routine or of none
abbrev pub NeededIn : Option Signature → Body → Need → Type 0
NeededIn None body need = Contains (body_needs body) need
NeededIn (Some itself) body need = NeededByBody itself.routine body need

-- what a body comes to: the resolved one with its needs, or the first refusal
abbrev pub IsResolvedBody : Option Signature → Outcome Body → Result ResolvedBody ResolveError → Type 0
IsResolvedBody itself outcome (Ok r) = (outcome ≡ Ok r.body) × AreNeeds r.needs (NeededIn itself r.body)
IsResolvedBody itself outcome (Err error) = Answers outcome (Err error)
