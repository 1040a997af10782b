-- What a routine that is to be made comes to, step by step.
use Rattle.std.specs.Prelude.{◌≡◌, [], ◌∷◌, Option, None, Some, Ok, Err}
use Rattle.sql_tree.specs.declared.body.Body.{Body}
use Rattle.name_scopes.specs.declared.error.ResolveError.TheVariants as errors
use Rattle.name_scopes.specs.declared.scope.Signature.{Signature}
use Rattle.name_scopes.specs.Outcomes.{Outcome}
use Rattle.cat_items.specs.declared.edit.Edit.{Edit}
use Rattle.cat_items.specs.declared.item.Item.TheVariants as item
use Rattle.cat_items.specs.declared.item.Routine.{Routine}
use Rattle.cat_items.specs.Needs.{AreNeeds, NeededByBody}
use Rattle.cat_items.specs.Shape.{HasReturnType, HaveTypes}
use Rattle.routine_deps.specs.declared.resolve.ResolvedBody.{ResolvedBody}
use Rattle.routine_forms.specs.Formed.{IsFormedBody}
use Rattle.routine_edit.specs.declared.making.MadeBody.{MadeBody}

-- what the grammar gives of a routine
pub record IsFormedRoutine (signature : Signature) (body : Body) : Type 0 where
  pub params : HaveTypes signature.params
  pub returns : HasReturnType signature.returns
  pub written : IsFormedBody body

-- the resolved body with its needs
pub record IsBodyOf (signature : Signature) (outcome : Outcome Body) (r : ResolvedBody) : Type 0 where
  pub body : outcome ≡ Ok r.body
  pub needs : AreNeeds r.needs (NeededByBody signature.routine r.body)

-- or none where all names stand and there is no type
abbrev pub IsNamedBody : Signature → Outcome Body → Option ResolvedBody → Type 0
IsNamedBody signature outcome None = outcome ≡ Err errors.TypeMismatch
IsNamedBody signature outcome (Some r) = IsBodyOf signature outcome r

-- the body, and a list of no needs for a routine with its caller's rights
pub record IsMadeBody (signature : Signature) (outcome : Outcome Body) (made : MadeBody) : Type 0 where
  pub body : IsBodyOf signature outcome made.resolved
  pub none : made.none ≡ []

-- the routine, and the edit that adds it and does nothing else
abbrev pub routine_of : Signature → ResolvedBody → Routine
routine_of signature r = record { routine = signature.routine; params = signature.params; returns = signature.returns; body = r.body; needs = r.needs }

abbrev pub adding_routine : Routine → Edit
adding_routine x = record { target = []; changed = []; added = item.Routine x ∷ [] }
