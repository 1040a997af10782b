-- Routines are made soundly.
use Rattle.std.proofs.Common.{◌≡◌, List, [], ◌∷◌, ◌++◌, Ok, Err, map, ap, sym, subst, refl}
use Rattle.std.specs.Prelude.{IfOk, Result}
use Rattle.sql_names.specs.declared.object.Object.{Object}
use Rattle.sql_names.specs.declared.sort.Param.{Param}
use Rattle.sql_tree.specs.declared.body.Body.{Body}
use Rattle.name_scopes.specs.declared.scope.Signature.{Signature}
use Rattle.name_scopes.specs.Outcomes.{Outcome}
use Rattle.cat_items.specs.declared.edit.Edit.{Edit}
use Rattle.cat_items.specs.declared.edit.EditError.{EditError}
use Rattle.cat_items.specs.declared.edit.Refusal.{Refusal}
use Rattle.cat_items.specs.declared.edit.Refusal.TheVariants.{NameExists}
use Rattle.cat_items.specs.declared.edit.Who.{Who}
use Rattle.cat_items.specs.declared.item.Item.{Item}
use Rattle.cat_items.specs.declared.item.Item.TheVariants as item
use Rattle.cat_items.specs.declared.item.Routine.{Routine}
use Rattle.cat_items.specs.Good.{IsGood}
use Rattle.cat_items.specs.Reach.{Has}
use Rattle.cat_items.specs.Rights.{path_of, IsRoutine}
use Rattle.cat_items.specs.Shape.{HasProperLists, HasReturnType, HaveTypes}
use Rattle.edit_rules.specs.First.{First, IsTested, Passes}
use Rattle.edit_rules.specs.Names.{unknown_schema}
use Rattle.edit_rules.specs.Owners.{not_owner}
use Rattle.edit_rules.proofs.FirstLaws.{passes_behind, passes_first, passes_rest}
use Rattle.edit_laws.specs.Forms.{HasFreeName}
use Rattle.edit_laws.specs.Proper.{IsProperItem, IsProperBeside}
use Rattle.edit_laws.specs.Sound.{IsSound}
use Rattle.view_deps.specs.Described.{known_of}
use Rattle.resolved_trees.proofs.Columns.{good_has_columns}
use Rattle.routine_deps.specs.Bodies.{body_scope}
use Rattle.resolved_bodies.proofs.ResolvedBodies.{body_resolved}
use Rattle.statement_steps.specs.Repeated.{repeated_name}
use Rattle.statement_steps.specs.Resolving.{unresolved_name}
use Rattle.statement_steps.specs.Steps.{no_least_privilege, refusals_of}
use Rattle.statement_steps.proofs.Additions.{sound_addition}
use Rattle.statement_steps.proofs.Repeats.{Differ, differ_where_passed}
use Rattle.routine_edit.specs.CreatedRoutines.{IsNeeded, IsRoutineMade, IsRoutineOf, body_in, param_names, repeated_in_body, routine_exists, routine_steps, untyped_body}
use Rattle.routine_edit.specs.Making.{IsFormedRoutine}
use Rattle.routine_edit.proofs.RoutineLemmas.{one_routine}

module _ (c : List Item) (who : Who) (signature : Signature) (body : Body) (good : IsGood c) (formed : IsFormedRoutine signature body)
    (passed : Passes (First (refusals_of c who (routine_steps c who signature body)))) (edit : Edit) (is : (routine_steps c who signature body).edit edit) where
  abbrev outcome : Outcome Body
  outcome = body_in c who signature body

  abbrev Made : Item → Type 0
  Made = IsRoutineMade signature outcome

  names_differ : Differ (param_names signature)
  names_differ = differ_where_passed (param_names signature) (passes_first (repeated_name (param_names signature)) _ passed)

  abbrev from_rules : List (Refusal → Type 0)
  from_rules = untyped_body outcome ∷ no_least_privilege c signature.routine.schema (IsNeeded signature.routine outcome) ∷ []

  abbrev from_taken : List (Refusal → Type 0)
  from_taken = routine_exists c signature.routine ∷ from_rules

  abbrev from_owner : List (Refusal → Type 0)
  from_owner = not_owner c who signature.routine.schema ∷ from_taken

  abbrev of_names : List (Refusal → Type 0)
  of_names = unknown_schema c signature.routine.schema ∷ unresolved_name outcome ∷ []

  new : ¬ (Has c (IsRoutine (path_of signature.routine)))
  new h =
      let after_tree = passes_behind (repeated_name (param_names signature) ∷ repeated_in_body body) (of_names ++ from_owner) passed in
      let after_names = passes_behind of_names from_owner after_tree in
      let after_owner = passes_rest (not_owner c who signature.routine.schema) from_taken after_names in
      passes_first (routine_exists c signature.routine) from_rules after_owner (NameExists (path_of signature.routine)) (h, refl)

  only_one : (x y : Item) → Made x → Made y → x ≡ y
  only_one (item.Routine x) (item.Routine y) p q = ap item.Routine (one_routine signature outcome x y p q)
  only_one x (item.Routine y) p q = absurd p
  only_one x y p q = absurd q

  no_such : (x : Routine) → IsRoutineOf signature outcome x → ¬ (Has c (IsRoutine (path_of x.routine)))
  no_such x p = subst (λ (o : Object). ¬ (Has c (IsRoutine (path_of o)))) (sym p.routine) new

  free : (x : Item) → Made x → HasFreeName c x
  free (item.Routine x) p = no_such x p
  free x p = absurd p

  lists : (x : Routine) → IsRoutineOf signature outcome x → HasProperLists (item.Routine x)
  lists x p = subst (λ (l : List Param). Differ (map (λ (p : Param). p.name) l)) (sym p.params) names_differ

  proper : (x : Item) → Made x → IsProperItem x
  proper (item.Routine x) p = record {
    allowed = tt;
    derived = p.derived;
    lists = lists x p;
    trees = (
      subst HaveTypes (sym p.params) formed.params,
      subst HasReturnType (sym p.returns) formed.returns,
      body_resolved (known_of c) (body_scope who.schema signature) (good_has_columns c good) body x.body formed.written p.body,
    );
  }
  proper x p = absurd p

  beside : (x : Item) → Made x → IsProperBeside c edit x
  beside (item.Routine x) p = no_such x p
  beside x p = absurd p

  pub sound_creation : IsSound c edit
  sound_creation = sound_addition c Made edit is good (λ x y name p q nx ny. only_one x y p q) free proper beside

-- the edit that comes of all tests
pub sound_result : (c : List Item) (who : Who) (signature : Signature) (body : Body) (result : Result Edit EditError) → IsGood c → IsFormedRoutine signature body
    → IsTested (refusals_of c who (routine_steps c who signature body)) (routine_steps c who signature body).edit result → IfOk result (IsSound c)
sound_result c who signature body (Ok edit) good formed h = sound_creation c who signature body good formed h.0 edit h.1
sound_result c who signature body (Err error) good formed h = tt
