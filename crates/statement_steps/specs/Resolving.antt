-- What the names and types of a tree tell: names that don't stand come with the other names of a statement, types behind them.
use Rattle.std.specs.Prelude.{◌≡◌, Option, None, Some, Result, Ok, Err}
use Rattle.name_scopes.specs.declared.error.ResolveError.{ResolveError}
use Rattle.name_scopes.specs.declared.error.ResolveError.TheVariants as errors
use Rattle.name_scopes.specs.Outcomes.{Outcome}
use Rattle.cat_items.specs.declared.edit.EditError.{EditError}
use Rattle.cat_items.specs.declared.edit.EditError.TheVariants.{Refused, Memory}
use Rattle.cat_items.specs.declared.edit.Refusal.{Refusal}
use Rattle.cat_items.specs.declared.edit.Refusal.TheVariants as refusals

-- its first name that stands for nothing, or for two columns or tables
abbrev pub unresolved_name : {A : Type 0} → Outcome A → Refusal → Type 0
unresolved_name (Err (errors.UnknownName path)) refusal = refusal ≡ refusals.UnknownName path
unresolved_name (Err (errors.Ambiguous name)) refusal = refusal ≡ refusals.Ambiguous name
unresolved_name outcome refusal = ⊥

-- a refusal by names, or what all names come to: none where they come to no type
abbrev pub by_names : {A : Type 0} → Result A ResolveError → Result (Option A) EditError
by_names (Ok value) = Ok (Some value)
by_names (Err (errors.UnknownName path)) = Err (Refused (refusals.UnknownName path))
by_names (Err (errors.Ambiguous name)) = Err (Refused (refusals.Ambiguous name))
by_names (Err errors.TypeMismatch) = Ok None
by_names (Err errors.Memory) = Err Memory
