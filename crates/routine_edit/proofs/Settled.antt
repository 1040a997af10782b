-- A catalogue and the parts of CREATE FUNCTION or CREATE PROCEDURE settle its refusal and its edit, which leaves all users.
use Rattle.std.proofs.Common.{◌≡◌, List, sym, ◌∙◌}
use Rattle.sql_tree.specs.declared.body.Act.{Act}
use Rattle.sql_tree.specs.declared.body.Act.TheVariants as acts
use Rattle.sql_tree.specs.declared.body.Body.{Body}
use Rattle.sql_tree.specs.declared.body.Body.TheVariants as bodies
use Rattle.sql_tree.specs.declared.statement.CreateFunction.{CreateFunction}
use Rattle.sql_tree.specs.declared.statement.CreateProcedure.{CreateProcedure}
use Rattle.name_scopes.specs.declared.scope.Signature.{Signature}
use Rattle.cat_items.specs.declared.edit.Edit.{Edit}
use Rattle.cat_items.specs.declared.edit.Who.{Who}
use Rattle.cat_items.specs.declared.item.Item.{Item}
use Rattle.cat_items.specs.Good.{IsGood}
use Rattle.edit_rules.specs.First.{First, Passes}
use Rattle.edit_rules.proofs.FirstLaws.{AreSettled, settled_each}
use Rattle.edit_laws.specs.Sound.{IsSound}
use Rattle.edit_laws.specs.Users.{LeavesUsers}
use Rattle.statement_forms.specs.Written.{IsWritten}
use Rattle.sql_tree.specs.declared.statement.Statement.TheVariants as statements
use Rattle.routine_forms.proofs.FormedBodies.{function_forms, procedure_forms}
use Rattle.statement_steps.specs.Steps.{Nothing, refusals_of}
use Rattle.statement_steps.proofs.Additions.{addition_leaves_users}
use Rattle.statement_steps.proofs.Repeats.{repeated_settled}
use Rattle.statement_steps.proofs.Settled.{edit_settled, one_told, steps_settled, unresolved_settled}
use Rattle.routine_edit.specs.CreatedRoutines.{IsFunctionCreation, IsProcedureCreation, IsRoutineMade, body_in, create_function_refusals, create_procedure_refusals, function_signature, param_names, procedure_signature, repeated_in_act, repeated_in_body, routine_steps}
use Rattle.routine_edit.specs.Making.{IsFormedRoutine}
use Rattle.routine_edit.proofs.SoundRoutines.{sound_creation}

act_settled : (a : Act) → AreSettled (repeated_in_act a)
act_settled (acts.Insert table columns source) = (repeated_settled columns, tt)
act_settled (acts.Update table assignments filter) = (repeated_settled _, tt)
act_settled (acts.Delete table filter) = tt
act_settled (acts.Call routine arguments) = tt

body_settled : (b : Body) → AreSettled (repeated_in_body b)
body_settled (bodies.Return security expr) = tt
body_settled (bodies.Atomic security all) = settled_each repeated_in_act act_settled all

module _ (c : List Item) (who : Who) (signature : Signature) (body : Body) where
  pub routine_refusals_settled : AreSettled (refusals_of c who (routine_steps c who signature body))
  routine_refusals_settled =
      steps_settled c who (routine_steps c who signature body) (repeated_settled (param_names signature), body_settled body)
      ((λ a b p q. p.1 ∙ sym q.1), (unresolved_settled (body_in c who signature body), tt)) (one_told _ _, tt) (one_told _ _, tt)

  pub routine_edit_settled : (a b : Edit) → (routine_steps c who signature body).edit a → (routine_steps c who signature body).edit b → a ≡ b
  routine_edit_settled a b p q = edit_settled c Nothing Nothing (IsRoutineMade signature (body_in c who signature body)) a b p q

  pub routine_leaves_users : (edit : Edit) → (routine_steps c who signature body).edit edit → LeavesUsers edit
  routine_leaves_users edit is = addition_leaves_users c (IsRoutineMade signature (body_in c who signature body)) edit is (λ name h. h)

-- what is written is formed
pub function_formed : (who : Who) (s : CreateFunction) → IsWritten (statements.CreateFunction s) → IsFormedRoutine (function_signature who s) s.body
function_formed who s written = let forms = function_forms s written in record { params = forms.0; returns = forms.1; written = forms.2 }

pub procedure_formed : (who : Who) (s : CreateProcedure) → IsWritten (statements.CreateProcedure s) → IsFormedRoutine (procedure_signature who s) s.body
procedure_formed who s written = let forms = procedure_forms s written in record { params = forms.0; returns = tt; written = forms.1 }

-- each edit of a written statement that passes all tests is sound
pub function_is_sound : (c : List Item) (who : Who) (s : CreateFunction) (edit : Edit) → IsGood c → IsWritten (statements.CreateFunction s) → Passes (First (create_function_refusals c who s)) → IsFunctionCreation c who s edit → IsSound c edit
function_is_sound c who s edit good written passed is = sound_creation c who (function_signature who s) s.body good (function_formed who s written) passed edit is

pub procedure_is_sound : (c : List Item) (who : Who) (s : CreateProcedure) (edit : Edit) → IsGood c → IsWritten (statements.CreateProcedure s) → Passes (First (create_procedure_refusals c who s)) → IsProcedureCreation c who s edit → IsSound c edit
procedure_is_sound c who s edit good written passed is = sound_creation c who (procedure_signature who s) s.body good (procedure_formed who s written) passed edit is
