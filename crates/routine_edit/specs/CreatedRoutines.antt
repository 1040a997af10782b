-- CREATE FUNCTION and CREATE PROCEDURE (SQL:2003 part 2, 11.50): the refusals in their order, and the edit.
use Rattle.std.specs.Prelude.{◌≡◌, List, [], ◌∷◌, map, None, Some, Ok, Err}
use Rattle.sql_names.specs.NameBytes.{NameBytes}
use Rattle.sql_names.specs.declared.object.Object.{Object}
use Rattle.sql_names.specs.declared.sort.Param.{Param}
use Rattle.sql_tree.specs.declared.body.Act.{Act}
use Rattle.sql_tree.specs.declared.body.Act.TheVariants as acts
use Rattle.sql_tree.specs.declared.body.Assignment.{Assignment}
use Rattle.sql_tree.specs.declared.body.Body.{Body}
use Rattle.sql_tree.specs.declared.body.Body.TheVariants as bodies
use Rattle.sql_tree.specs.declared.body.Security.{Security}
use Rattle.sql_tree.specs.declared.body.Security.TheVariants.{Definer, Invoker}
use Rattle.sql_tree.specs.declared.statement.CreateFunction.{CreateFunction}
use Rattle.sql_tree.specs.declared.statement.CreateProcedure.{CreateProcedure}
use Rattle.name_scopes.specs.declared.error.ResolveError.TheVariants as errors
use Rattle.name_scopes.specs.declared.scope.Signature.{Signature}
use Rattle.name_scopes.specs.Outcomes.{Outcome}
use Rattle.cat_items.specs.declared.edit.Edit.{Edit}
use Rattle.cat_items.specs.declared.edit.Refusal.{Refusal}
use Rattle.cat_items.specs.declared.edit.Refusal.TheVariants.{NameExists, TypeMismatch}
use Rattle.cat_items.specs.declared.edit.Who.{Who}
use Rattle.cat_items.specs.declared.item.Item.{Item}
use Rattle.cat_items.specs.declared.item.Item.TheVariants as item
use Rattle.cat_items.specs.declared.item.Routine.{Routine}
use Rattle.cat_items.specs.declared.need.Need.{Need}
use Rattle.cat_items.specs.Needs.{NeededByBody}
use Rattle.cat_items.specs.Reach.{Has}
use Rattle.cat_items.specs.Rights.{path_of, IsRoutine}
use Rattle.cat_items.specs.Shape.{HasDerivedFields}
use Rattle.cat_items.specs.SystemRights.{security_of}
use Rattle.edit_rules.specs.First.{tests_of}
use Rattle.edit_rules.specs.Names.{object_in, unknown_schema}
use Rattle.view_deps.specs.Described.{known_of}
use Rattle.routine_deps.specs.Bodies.{body_scope, resolved_body}
use Rattle.statement_steps.specs.Repeated.{repeated_name}
use Rattle.statement_steps.specs.Resolving.{unresolved_name}
use Rattle.statement_steps.specs.Steps.{MakesEdit, Nothing, Steps, refusals_of, where_it_is}

-- what a routine takes and returns
abbrev pub function_signature : Who → CreateFunction → Signature
function_signature who s = record { routine = object_in who.schema s.function; params = s.params; returns = Some s.returns }

abbrev pub procedure_signature : Who → CreateProcedure → Signature
procedure_signature who s = record { routine = object_in who.schema s.procedure; params = s.params; returns = None }

-- names that come twice in the column list of an INSERT, or among the columns that an UPDATE sets
abbrev pub repeated_in_act : Act → List (Refusal → Type 0)
repeated_in_act (acts.Insert table columns source) = repeated_name columns ∷ []
repeated_in_act (acts.Update table assignments filter) = repeated_name (map (λ (a : Assignment). a.column) assignments) ∷ []
repeated_in_act act = []

abbrev pub repeated_in_body : Body → List (Refusal → Type 0)
repeated_in_body (bodies.Return security expr) = []
repeated_in_body (bodies.Atomic security all) = tests_of repeated_in_act all

abbrev pub param_names : Signature → List NameBytes
param_names signature = map (λ (p : Param). p.name) signature.params

-- what the body comes to by the catalogue
abbrev pub body_in : List Item → Who → Signature → Body → Outcome Body
body_in c who signature body = resolved_body (known_of c) (body_scope who.schema signature) body

-- a routine has this name
abbrev pub routine_exists : List Item → Object → Refusal → Type 0
routine_exists c routine = where_it_is (Has c (IsRoutine (path_of routine))) (NameExists (path_of routine))

-- all names of the body stand, and there is no type
abbrev pub untyped_body : Outcome Body → Refusal → Type 0
untyped_body outcome = where_it_is (outcome ≡ Err errors.TypeMismatch) TypeMismatch

-- with its owner's rights a routine needs what its body needs, with its caller's nothing
abbrev pub NeededFor : Object → Body → Security → Need → Type 0
NeededFor routine body Definer need = NeededByBody routine body need
NeededFor routine body Invoker need = ⊥

abbrev pub IsNeeded : Object → Outcome Body → Need → Type 0
IsNeeded routine (Ok body) need = NeededFor routine body (security_of body) need
IsNeeded routine (Err error) need = ⊥

-- the routine of this signature with the resolved body
pub record IsRoutineOf (signature : Signature) (outcome : Outcome Body) (x : Routine) : Type 0 where
  pub routine : x.routine ≡ signature.routine
  pub params : x.params ≡ signature.params
  pub returns : x.returns ≡ signature.returns
  pub body : outcome ≡ Ok x.body
  pub derived : HasDerivedFields (item.Routine x)

abbrev pub IsRoutineMade : Signature → Outcome Body → Item → Type 0
IsRoutineMade signature outcome (item.Routine x) = IsRoutineOf signature outcome x
IsRoutineMade signature outcome x = ⊥

abbrev pub routine_steps : List Item → Who → Signature → Body → Steps
routine_steps c who signature body = record {
  by_tree = repeated_name (param_names signature) ∷ repeated_in_body body;
  names = unknown_schema c signature.routine.schema ∷ unresolved_name (body_in c who signature body) ∷ [];
  schema = signature.routine.schema;
  taken = routine_exists c signature.routine ∷ [];
  rules = untyped_body (body_in c who signature body) ∷ [];
  needs = IsNeeded signature.routine (body_in c who signature body);
  edit = MakesEdit c Nothing Nothing (IsRoutineMade signature (body_in c who signature body));
}

-- ---- the two statements

abbrev pub create_function_refusals : List Item → Who → CreateFunction → List (Refusal → Type 0)
create_function_refusals c who s = refusals_of c who (routine_steps c who (function_signature who s) s.body)

abbrev pub IsFunctionCreation : List Item → Who → CreateFunction → Edit → Type 0
IsFunctionCreation c who s = (routine_steps c who (function_signature who s) s.body).edit

abbrev pub create_procedure_refusals : List Item → Who → CreateProcedure → List (Refusal → Type 0)
create_procedure_refusals c who s = refusals_of c who (routine_steps c who (procedure_signature who s) s.body)

abbrev pub IsProcedureCreation : List Item → Who → CreateProcedure → Edit → Type 0
IsProcedureCreation c who s = (routine_steps c who (procedure_signature who s) s.body).edit
